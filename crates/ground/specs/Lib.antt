pub mod Choice
pub mod Lists
pub mod Refusals
pub mod Regions
pub mod Text
pub mod Writes
