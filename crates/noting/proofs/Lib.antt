pub mod Flat
pub mod Forming
pub mod Growing
pub mod Limits
pub mod Passing
pub mod IoNotes
pub mod Outcomes
