-- What must be believed of the call for between literals, in reading order.
pub mod Bytes
pub mod Tests
pub mod Search
pub mod Calls
pub mod Samples
pub mod Promise
