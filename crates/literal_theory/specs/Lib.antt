-- What a path of a segment says, down to literals of a query, in reading order.
pub mod Labels
pub mod Forms
pub mod Heaps
pub mod Translation
pub mod Numbers
pub mod Claims
pub mod Examples
