-- What the code's answers say.
pub mod Answers
