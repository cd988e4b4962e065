-- What the definitions give for the examples, by computation.
pub mod Examples
