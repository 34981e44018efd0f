pub mod Numbers
pub mod Finding
pub mod RunsFound
pub mod Declared
pub mod Outcomes
