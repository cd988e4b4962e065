-- The theory, from its leaves up: no part knows one below it.
pub mod Lists
pub mod Places
pub mod Rings
pub mod Sheets
pub mod Orders
pub mod Promised
pub mod Examples
