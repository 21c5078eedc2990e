pub mod Words
pub mod Unique
