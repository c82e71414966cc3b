pub mod Explanations
pub mod Members
pub mod Starts
pub mod Walks
pub mod OneStart
pub mod OneAnswer
pub mod OneTree
