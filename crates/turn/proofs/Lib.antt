pub mod Seen
pub mod Sending
pub mod Turns
pub mod Transmissions
pub mod Unique
