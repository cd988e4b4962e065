-- Theorems about cut links, from their leaves up; the examples first.
pub mod Examples
pub mod Jumps
pub mod Versions
pub mod Trees
