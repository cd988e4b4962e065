pub mod Rounds
pub mod Rows
pub mod Places
pub mod Marks
