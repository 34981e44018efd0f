pub mod Decimal
pub mod Words
pub mod Parts
pub mod Stands
