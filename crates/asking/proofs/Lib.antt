pub mod NameLaws
pub mod RefLaws
pub mod RowLaws
pub mod TokenLaws
pub mod Outcomes
