-- What a routine's text says, in reading order.
pub mod Builder
pub mod Grammar
pub mod Reading
pub mod Claims
pub mod Joining
pub mod Examples
