pub mod Falls
pub mod One
