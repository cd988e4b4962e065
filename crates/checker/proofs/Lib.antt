pub mod Judging
pub mod Readings
pub mod Range
pub mod Goals
pub mod Answered
