pub mod Heads
pub mod Line
pub mod Link
pub mod Questions
pub mod Reply
pub mod Suffice
