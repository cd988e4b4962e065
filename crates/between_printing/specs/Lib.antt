pub mod BetweenverdictText
pub mod Reading
pub mod Examples
