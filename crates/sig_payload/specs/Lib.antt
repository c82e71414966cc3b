pub mod Signing
pub mod Annotations
pub mod BundleRecord
pub mod Bundles
pub mod Promised
