pub mod Stands
pub mod Digits
pub mod Parts
