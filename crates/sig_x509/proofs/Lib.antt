pub mod IssuanceLaws
pub mod IssuedLaws
pub mod DirectPaths
pub mod PathAnswers
pub mod PathSignatures
pub mod AnchorLaws
pub mod Bits
pub mod PossibleRows
mod PossibleLists
pub mod PossibleLaws
mod AskedAnchors
mod Counts
mod CycleLaws
pub mod Elements
mod FirstAskedAnchors
mod IndexLaws
mod KeyAnswers
mod KeyCopies
mod KeyOrders
mod NamedAnchors
mod FirstIntermediates
mod PathClauses
pub mod PathConditions
pub mod PathTable
mod PlaceLaws
mod RootedLaws
mod RowLaws
mod RowSteps
mod SeenCandidates
mod SignerLists
mod Walks
