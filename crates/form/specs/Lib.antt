pub mod Form
pub mod Forms
