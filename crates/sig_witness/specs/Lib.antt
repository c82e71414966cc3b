pub mod Updates
pub mod KeptLogs
pub mod Causes
pub mod Answer
pub mod StateText
pub mod StateCauses
pub mod StateCut
pub mod StateRead
