pub mod Freshness
pub mod Declaring
