-- The bytes of a query: what their acceptance gives.
pub mod Tied
pub mod Entries
pub mod Bytes
pub mod AcceptedBytes
pub mod Places
pub mod ThreeLinks
