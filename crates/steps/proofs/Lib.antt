pub mod Chosen
pub mod TooMany
pub mod ReadBy
pub mod Admitted
pub mod Shows
pub mod Writes
pub mod Refusals
pub mod Unique
