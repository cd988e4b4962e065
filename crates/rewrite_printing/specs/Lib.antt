pub mod RewriteText
pub mod Claims
