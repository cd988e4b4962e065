pub mod Said
pub mod Answers
