pub mod Lines
pub mod Wrong
