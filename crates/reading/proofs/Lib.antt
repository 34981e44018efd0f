pub mod Answering
pub mod Final
