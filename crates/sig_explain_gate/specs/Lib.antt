pub mod Artifact
pub mod Bundle
pub mod GateExplanation
pub mod Roots
pub mod OneTree
