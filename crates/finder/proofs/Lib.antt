pub mod Laws
pub mod Begins
pub mod Trail
pub mod Near
pub mod Exactly
pub mod Readable
pub mod Unique
