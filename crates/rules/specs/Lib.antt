pub mod Answers
pub mod Tests
pub mod Allowed
pub mod Views
