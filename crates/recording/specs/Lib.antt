pub mod ByKind
pub mod Making
