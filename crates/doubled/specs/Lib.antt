pub mod Answers
pub mod Doubled
