pub mod Pairs
pub mod Joined
pub mod Heaps
pub mod Call
pub mod HandBack
pub mod Claims
pub mod Samples
