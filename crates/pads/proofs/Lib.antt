pub mod Far
pub mod Named
pub mod Looked
pub mod Filled
