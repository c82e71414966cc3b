pub mod Certificates
mod CausedRefusals
mod CheckedLaws
pub mod ContentLaws
pub mod Hashedrekords
mod LeafLaws
mod PassedLaws
mod ProfileLaws
mod RefusalCauses
pub mod SigningCertificateLaws
mod RefusedBundles
pub mod VersionLaws
pub mod DsseBodies
pub mod PayloadDigests
pub mod LoggedArtifacts
pub mod LoggedBodies
pub mod LoggedEnvelopes
pub mod BundleClauses
