pub mod Laws
pub mod Stores
pub mod Examples
