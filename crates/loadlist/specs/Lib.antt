pub mod Records
pub mod Check
pub mod Run
