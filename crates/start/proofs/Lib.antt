pub mod Cases
pub mod Started
pub mod Unique
