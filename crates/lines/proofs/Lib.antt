pub mod Cases
pub mod Rows
