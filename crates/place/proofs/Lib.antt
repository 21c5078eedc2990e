pub mod Edits
pub mod Numbers
pub mod Places
pub mod Unique
