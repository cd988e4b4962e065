pub mod Answers
pub mod Alternatives
