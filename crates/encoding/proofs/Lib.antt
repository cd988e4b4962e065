-- The theorems, from the leaves up.
pub mod Encoded
pub mod Lengths
pub mod Decoded
pub mod Recovered
pub mod WritingCall
