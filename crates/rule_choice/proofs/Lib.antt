pub mod Nested
pub mod Searches
pub mod Rounds
