pub mod Told
pub mod Subnets
pub mod Laying
pub mod RoundTrip
pub mod ReadyHeader
pub mod Unique
pub mod Parts
