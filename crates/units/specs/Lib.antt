pub mod Rounds
pub mod Graphs
pub mod Proposes
pub mod Marks
