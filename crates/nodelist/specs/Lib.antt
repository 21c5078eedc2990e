pub mod Condensed
pub mod List
