pub mod Priority
pub mod Route
pub mod Suits
