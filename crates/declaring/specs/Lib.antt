pub mod Reading
pub mod Fresh
pub mod Going
