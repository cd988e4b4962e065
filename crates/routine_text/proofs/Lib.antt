-- What holds of reading, and that the examples come out.
pub mod First
pub mod Claims
pub mod Joining
pub mod Examples
