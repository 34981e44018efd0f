pub mod Operands
