pub mod Seen
pub mod Verdict
pub mod Joined
pub mod Unique
