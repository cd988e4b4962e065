pub mod Texts
pub mod Calls
pub mod Examples
