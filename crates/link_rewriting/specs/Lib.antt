pub mod LinkedQuery
pub mod Call
pub mod Claims
pub mod Samples
