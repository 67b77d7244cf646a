pub mod Kept
pub mod Having
pub mod Levels
pub mod Doing
pub mod Standing
pub mod Running
pub mod Recordings
