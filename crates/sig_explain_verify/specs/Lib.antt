pub mod Inputs
pub mod Parts
pub mod ShownRoot
pub mod Evidence
pub mod RefusedTree
pub mod Verified
pub mod OneTree
