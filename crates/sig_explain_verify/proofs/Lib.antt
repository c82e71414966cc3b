pub mod Issuers
pub mod Rows
pub mod ShownRoots
pub mod OneReading
pub mod OneResult
pub mod OneShownTree
pub mod OneTree
