pub mod Going
pub mod Marks
pub mod Outcome
pub mod Rings
pub mod Seeking
pub mod Sound
pub mod Tabled
