pub mod Places
pub mod Bounds
pub mod TwoQueries
pub mod Header
pub mod Numbers
