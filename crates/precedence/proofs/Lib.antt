-- The turns of the code's loops, and its answer.
pub mod Turns
pub mod Answered
