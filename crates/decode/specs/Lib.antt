pub mod Account
pub mod Lines
