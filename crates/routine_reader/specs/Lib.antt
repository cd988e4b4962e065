-- The reader of a text, in reading order.
pub mod Rows
pub mod Stack
pub mod Answers
pub mod Claims
