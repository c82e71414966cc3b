pub mod Request
pub mod Reply
pub mod AskedRoots
pub mod Questions
pub mod RowList
pub mod Suffice
