pub mod Bytes
pub mod Laws
pub mod Outcomes
pub mod Strings
