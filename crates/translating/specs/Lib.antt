pub mod Translation
pub mod Outcome
pub mod InTables
pub mod Sound
pub mod Answered
