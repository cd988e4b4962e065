-- Tests, searches, counts, iteration: laws that callers use in place of the definitions' text.
pub mod Search
pub mod Compare
pub mod Count
pub mod Iterate
