pub mod Entries
pub mod Links
