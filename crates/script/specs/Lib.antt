pub mod Keywords
pub mod Script
pub mod Words
pub mod Levels
