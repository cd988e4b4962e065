pub mod HeapverdictText
pub mod Examples
