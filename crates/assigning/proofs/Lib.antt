pub mod Laws
pub mod Shown
pub mod Parts
pub mod Places
pub mod One
