pub mod Heads
pub mod Shapes
pub mod Links
pub mod Points
pub mod Members
pub mod Bodies
pub mod Lines
