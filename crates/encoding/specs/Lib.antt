pub mod QueryBytes
pub mod WritingCall
