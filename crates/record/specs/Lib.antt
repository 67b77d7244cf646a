pub mod Remarks
pub mod Deeds
pub mod Recordings
pub mod Keeping
pub mod Courses
pub mod Runs
