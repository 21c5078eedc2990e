pub mod Leaving
pub mod Heard
pub mod Unique
