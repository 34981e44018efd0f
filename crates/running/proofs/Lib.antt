pub mod Giving
pub mod Laws
pub mod Ways
