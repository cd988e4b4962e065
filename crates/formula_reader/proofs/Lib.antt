pub mod Laws
pub mod Trees
pub mod Readers
pub mod Picking
