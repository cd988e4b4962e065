-- What the definitions give for the examples, by computation.
pub mod Examples
pub mod EdgeExamples
pub mod HeapExamples
pub mod LinkExamples
pub mod JoinPairs
