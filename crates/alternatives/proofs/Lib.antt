pub mod Alternatives
pub mod Steps
