pub mod Numbers
pub mod Rules
pub mod Unique
