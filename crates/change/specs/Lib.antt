pub mod Change
pub mod Decides
