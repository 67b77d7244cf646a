pub mod Value
pub mod Structure
pub mod Integer
pub mod Windows
