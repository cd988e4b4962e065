-- The theorems, from the leaves up.
pub mod Lines
pub mod Lengths
pub mod Streams
pub mod Turns
pub mod FirstLines
pub mod Runs
pub mod Loops
pub mod Examples
