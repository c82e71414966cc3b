pub mod Answer
pub mod Number
