pub mod Fronts
pub mod ExtensionLaws
pub mod PreambleLaws
pub mod BindingLaws
pub mod CertificateLaws
pub mod Readings
pub mod ExtensionCountLaws
mod SingleValueLaws
mod ProfileFaults
mod TrustFaults
mod Clauses
mod BitLaws
mod ValueLaws
mod OneCertificate
pub mod WalkLaws
mod FrontNames
pub mod PemLaws
mod WrapLaws
pub mod Spans
pub mod NameLaws
pub mod DistinctLaws
pub mod SortedLaws
pub mod CertificateBytes
