pub mod Laws
pub mod Triples
