pub mod Copies
pub mod Meeting
