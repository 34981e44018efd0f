pub mod Measures
pub mod Outcomes
pub mod Shorts
pub mod Steps
pub mod Sums
pub mod Widths
