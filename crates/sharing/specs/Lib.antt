-- What must be believed of what ruleshares prints, in reading order.
pub mod Output
pub mod TurnClaims
pub mod Streaming
pub mod Claims
