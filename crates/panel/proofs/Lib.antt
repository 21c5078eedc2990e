pub mod Looked
pub mod Unique
pub mod Bridge
