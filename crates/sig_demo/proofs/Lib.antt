pub mod RequestReadings
pub mod Checkpoints
pub mod Depths
pub mod Logs
pub mod Sizes
pub mod Values
