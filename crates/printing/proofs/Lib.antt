pub mod One
pub mod Views
pub mod Trits
pub mod Whole
pub mod Ready
pub mod Sound
pub mod Printing
