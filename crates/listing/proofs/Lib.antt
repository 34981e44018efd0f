pub mod Filled
pub mod Fits
