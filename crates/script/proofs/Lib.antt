pub mod Words
pub mod Numbers
pub mod Hex
pub mod RoundTrip
pub mod Unique
