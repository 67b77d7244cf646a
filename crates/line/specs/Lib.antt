pub mod Notices
pub mod Refusals
pub mod Meaning
pub mod Order
pub mod Boards
pub mod Outboxes
pub mod Telling
pub mod Acts
