pub mod Bits
pub mod Choosing
pub mod Fitting
pub mod Left
pub mod One
