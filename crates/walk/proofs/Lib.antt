pub mod Lines
pub mod Walks
pub mod Padded
pub mod Looks
pub mod Turns
pub mod Steps
