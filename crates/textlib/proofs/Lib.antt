pub mod Counting
pub mod Outcome
