pub mod Tells
pub mod Decision
