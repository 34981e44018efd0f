pub mod Cases
pub mod Back
pub mod Laying
pub mod Lengths
pub mod Runs
pub mod Slices
