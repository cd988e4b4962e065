pub mod Reporting
pub mod Answering
