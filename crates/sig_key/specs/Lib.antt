pub mod Signature
pub mod Key
pub mod Kind
pub mod Spki
