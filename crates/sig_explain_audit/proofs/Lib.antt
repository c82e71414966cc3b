pub mod Explanations
pub mod Members
pub mod OneTree
