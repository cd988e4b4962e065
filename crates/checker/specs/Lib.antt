pub mod Reading
pub mod Ahead
pub mod Promise
