pub mod Keeping
pub mod Making
pub mod Unique
