pub mod Phase
pub mod Fit
pub mod Fitness
pub mod Fresh
pub mod Change
pub mod State
