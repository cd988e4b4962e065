pub mod Laws
pub mod Reading
pub mod Examples
