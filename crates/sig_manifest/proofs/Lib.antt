pub mod Elements
pub mod Levels
pub mod ArtifactWalks
pub mod Parts
pub mod PolicyMaps
pub mod Refusals
pub mod RuleViews
pub mod Sizes
