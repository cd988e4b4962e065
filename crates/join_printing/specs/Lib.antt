pub mod JoinText
pub mod Examples
pub mod Refused
