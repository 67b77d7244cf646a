pub mod Turns
pub mod Roster
pub mod Company
pub mod Run
pub mod OnLine
pub mod Waits
pub mod Answers
