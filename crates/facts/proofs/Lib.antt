pub mod Rep
pub mod Itself
pub mod Path
pub mod Alive
pub mod Adding
