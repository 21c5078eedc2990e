pub mod Opened
pub mod Laws
pub mod Refuted
