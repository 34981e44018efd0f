pub mod MetaLaws
pub mod MetaNotes
pub mod MetaAfter
pub mod MetaTop
