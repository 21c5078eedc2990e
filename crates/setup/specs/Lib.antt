pub mod Setup
pub mod Fit
pub mod Fitness
