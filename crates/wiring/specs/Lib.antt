pub mod CellAdding
