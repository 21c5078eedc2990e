pub mod Message
pub mod Unwrap
pub mod Wrap
pub mod Answer
pub mod Making
