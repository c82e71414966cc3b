pub mod KeyLaws
pub mod KeyFaults
pub mod KeyringLaws
pub mod VouchedLaws
pub mod VectorLaws
pub mod SctLaws
pub mod SingleVectors
pub mod PrecertLaws
mod KeptLaws
mod StructLaws
pub mod EmbeddedLaws
pub mod CertificateScts
