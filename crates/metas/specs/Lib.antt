pub mod MetaRows
