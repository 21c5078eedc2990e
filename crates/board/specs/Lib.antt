pub mod Node
pub mod Table
pub mod Change
pub mod Columns
pub mod Types
pub mod Wanted
pub mod Index
pub mod Round
