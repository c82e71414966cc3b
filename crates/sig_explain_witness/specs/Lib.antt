pub mod WitnessExplanation
pub mod UpdateTrees
pub mod Start
pub mod Walk
