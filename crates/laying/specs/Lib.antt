pub mod Holding
pub mod Growing
pub mod Bare
