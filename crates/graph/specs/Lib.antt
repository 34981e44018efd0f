pub mod Graph
pub mod Placing
