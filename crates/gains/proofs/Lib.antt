pub mod Keeps
pub mod Counts
