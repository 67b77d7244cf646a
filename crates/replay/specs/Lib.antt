pub mod Running
pub mod Text
