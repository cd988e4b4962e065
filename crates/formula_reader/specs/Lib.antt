pub mod Tree
pub mod Answers
pub mod Marked
