pub mod InTables
pub mod Marks
pub mod Placing
