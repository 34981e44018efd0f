pub mod Good
pub mod Laws
pub mod Walk
pub mod Written
