pub mod Sections
pub mod Laws
pub mod Breaking
pub mod Naming
pub mod Linking
