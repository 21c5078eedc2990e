pub mod Fletcher
pub mod Joined
pub mod Caught
