pub mod Seen
pub mod Digest
