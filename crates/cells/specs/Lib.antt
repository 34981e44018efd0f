pub mod Operands
pub mod Values
pub mod Records
pub mod Held
