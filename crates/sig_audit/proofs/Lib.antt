pub mod FirstErrors
pub mod Chains
pub mod HeadAnswers
pub mod AuditAnswers
pub mod Listings
pub mod ChainLaws
pub mod Ends
