pub mod Answers
pub mod Course
pub mod Services
