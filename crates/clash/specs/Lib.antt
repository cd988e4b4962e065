pub mod Sections
pub mod Answers
