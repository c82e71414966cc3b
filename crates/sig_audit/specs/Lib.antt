pub mod Chained
pub mod Fronts
pub mod Audited
pub mod Faults
pub mod Answer
pub mod Listing
pub mod Sized
