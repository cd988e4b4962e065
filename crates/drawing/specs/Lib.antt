-- What must be believed of the text of a heap report, in reading order.
pub mod Text
pub mod Call
pub mod Samples
pub mod Reader
pub mod Claims
