pub mod Equality
mod PlainTexts
pub mod PromiseLaws
mod ProofLaws
pub mod EntryReadings
pub mod EntryTrees
pub mod FoundMembers
pub mod MaterialReadings
pub mod BundleDepths
pub mod BundleMembers
