pub mod Lines
pub mod Judging
