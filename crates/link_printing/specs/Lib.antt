pub mod LinkText
pub mod Claims
