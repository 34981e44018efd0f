pub mod Noted
pub mod Formed
pub mod Rulings
