pub mod Answers
pub mod Smallest
