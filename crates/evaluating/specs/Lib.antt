pub mod Settled
pub mod Evaluation
pub mod Outcome
pub mod InTables
pub mod Sound
pub mod Answered
