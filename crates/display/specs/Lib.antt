pub mod Text
pub mod Messages
pub mod Form
pub mod Numbers
