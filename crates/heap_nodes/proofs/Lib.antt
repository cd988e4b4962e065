pub mod Nodes
pub mod Writing
