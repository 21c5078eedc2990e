pub mod Silent
pub mod Written
pub mod Unfit
pub mod Unique
