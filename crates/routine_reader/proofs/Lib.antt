pub mod Stack
pub mod Choices
pub mod Coming
pub mod Moves
pub mod Going
pub mod Claims
