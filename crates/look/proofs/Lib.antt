pub mod Digests
pub mod Seeing
pub mod Unique
