pub mod Middle
pub mod Strings
pub mod Left
pub mod Metas
pub mod Ios
pub mod CellRows
pub mod Outcomes
