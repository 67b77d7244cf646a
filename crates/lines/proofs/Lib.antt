pub mod Cutting
pub mod Reading
pub mod Streaming
pub mod Running
pub mod Digits
