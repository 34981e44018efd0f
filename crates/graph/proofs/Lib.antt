pub mod Cases
pub mod Order
pub mod Pigeon
pub mod Ready
pub mod Ring
pub mod Same
