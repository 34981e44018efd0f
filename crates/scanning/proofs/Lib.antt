pub mod Outcome
pub mod Plain
pub mod Sequences
