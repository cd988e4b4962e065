-- What must be believed of order lists from precedence sheets, in reading order.
pub mod Sheet
pub mod Kept
pub mod Finding
pub mod Calls
pub mod Promise
pub mod Examples
