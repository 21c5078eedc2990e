pub mod Phases
pub mod Fitting
pub mod Changing
pub mod Starting
pub mod Unique
