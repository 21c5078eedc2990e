pub mod Apart
pub mod Lower
pub mod Indexes
pub mod Tables
pub mod Pools
pub mod Addresses
pub mod Places
pub mod Unique
