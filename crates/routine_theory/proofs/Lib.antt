-- Theorems about routines, from their leaves up.
pub mod Means
pub mod Passing
pub mod States
pub mod Chains
pub mod Listed
pub mod Whole
pub mod Answers
