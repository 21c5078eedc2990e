pub mod Wrong
pub mod Trial
