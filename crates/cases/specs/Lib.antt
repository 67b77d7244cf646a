pub mod Examples
pub mod Copying
pub mod Telling
pub mod Conferring
