pub mod Laws
pub mod Outcome
