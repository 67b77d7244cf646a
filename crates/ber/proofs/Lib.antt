pub mod Nesting
pub mod Taking
pub mod Carrying
pub mod Lying
pub mod Appending
pub mod Numbers
