pub mod Links
pub mod Choice
pub mod Rows
pub mod Completing
