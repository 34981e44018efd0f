pub mod Lines
pub mod Pools
