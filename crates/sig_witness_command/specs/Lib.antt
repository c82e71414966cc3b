pub mod Request
pub mod Start
pub mod Outcome
pub mod Walk
pub mod Reply
pub mod Questions
pub mod RowList
pub mod Suffice
