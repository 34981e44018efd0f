pub mod Runs
pub mod Operands
pub mod Keywords
pub mod Lines
