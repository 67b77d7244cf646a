pub mod Asking
pub mod Asked
