pub mod Given
pub mod Gates
