pub mod Bytes
pub mod Condensed
pub mod Open
pub mod Passes
pub mod Placed
pub mod Theorems
pub mod Unique
