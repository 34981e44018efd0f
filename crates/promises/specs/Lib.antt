pub mod Asking
pub mod Lines
pub mod Refusals
pub mod More
