pub mod Operations
pub mod Requests
pub mod Wording
pub mod Writing
