pub mod Refusals
pub mod Levels
pub mod LevelWords
pub mod Calls
pub mod Circles
pub mod Table
pub mod Edits
pub mod Closures
