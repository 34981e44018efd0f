pub mod Laws
pub mod Naming
pub mod Cases
