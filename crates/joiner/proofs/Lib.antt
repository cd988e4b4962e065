pub mod Laws
pub mod Answers
pub mod Query
pub mod Joins
