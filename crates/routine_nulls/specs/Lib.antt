pub mod Nulls
pub mod Examples
