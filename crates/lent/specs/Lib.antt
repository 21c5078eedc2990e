pub mod Lent
pub mod Numbers
pub mod Amend
