pub mod Sent
pub mod Messages
pub mod Unique
