pub mod Gates
pub mod Mux
pub mod Trit
pub mod Wide
