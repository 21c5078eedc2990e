pub mod Waits
pub mod Seen
pub mod Unique
