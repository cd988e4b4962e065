-- Theorems about paths, from their leaves up.
pub mod States
pub mod Assignments
pub mod Exact
pub mod Claims
