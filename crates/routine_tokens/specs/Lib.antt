pub mod Tokens
pub mod Samples
