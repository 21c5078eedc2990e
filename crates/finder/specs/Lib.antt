pub mod Finder
pub mod Numbers
pub mod Trail
