pub mod Picked
pub mod PickedLaws
pub mod Ranges
pub mod RootRecord
pub mod ClientConfig
pub mod OfBytes
pub mod Sparse
