pub mod Values
pub mod Pieces
pub mod Rules
pub mod Notes
