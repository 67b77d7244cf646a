pub mod Times
pub mod Orders
pub mod Hearing
