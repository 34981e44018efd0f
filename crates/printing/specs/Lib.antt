pub mod Lines
pub mod Outcome
