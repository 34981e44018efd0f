pub mod Took
pub mod Tokens
