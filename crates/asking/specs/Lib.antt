pub mod Namesakes
pub mod References
