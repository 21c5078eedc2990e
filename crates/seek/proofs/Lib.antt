pub mod Seen
pub mod Discovery
pub mod Answers
pub mod Settling
pub mod Unique
