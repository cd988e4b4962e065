-- Graph theory over an abstract relation and partial function (000, A.1).
pub mod Pigeonhole
pub mod Orbit
pub mod Cycles
pub mod BasinGraph
pub mod Pick
pub mod Ascending
