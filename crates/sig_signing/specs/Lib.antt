pub mod Artifact
pub mod Conversion
pub mod Decoded
pub mod Signed
