pub mod Image
pub mod Holder
pub mod Looking
pub mod Store
pub mod Answer
pub mod Numbers
pub mod Series
