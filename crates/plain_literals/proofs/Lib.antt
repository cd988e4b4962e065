pub mod Bounded
pub mod Each
pub mod Taken
pub mod Read
