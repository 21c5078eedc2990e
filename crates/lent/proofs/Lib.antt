pub mod InPlace
pub mod Faces
pub mod Sizes
pub mod Unique
