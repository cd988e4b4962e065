pub mod Rows
pub mod Returned
