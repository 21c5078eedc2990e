pub mod Laws
pub mod RoundTrip
pub mod Exactly
pub mod Shown
pub mod Faces
pub mod Messages
pub mod Unique
