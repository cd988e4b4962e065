pub mod Nogoods
pub mod Branching
