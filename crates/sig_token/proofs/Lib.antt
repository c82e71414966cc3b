pub mod ClaimReadings
pub mod Parts
pub mod Tokens
