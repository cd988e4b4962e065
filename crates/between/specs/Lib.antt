-- What must be believed of between literals, in reading order.
pub mod Meaning
