pub mod Answering
pub mod Cutting
pub mod Spelling
