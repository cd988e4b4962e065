pub mod Laws
pub mod Clashes
pub mod Lives
pub mod Moves
