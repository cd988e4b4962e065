pub mod Loops
pub mod Written
pub mod Answers
