pub mod Bundles
pub mod Explanations
pub mod FoundArtifacts
pub mod OneDecision
pub mod OneTree
pub mod ReadNames
