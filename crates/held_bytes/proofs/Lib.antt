pub mod Waiting
pub mod Moves
