pub mod CheckText
pub mod Examples
