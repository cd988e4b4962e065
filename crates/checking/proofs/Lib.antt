mod Samples
pub mod Numbers
pub mod Pairs
pub mod Bytes
pub mod Moves
pub mod Trees
pub mod Judged
pub mod Hand
pub mod Claims
pub mod Header
