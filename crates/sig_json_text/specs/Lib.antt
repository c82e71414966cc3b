pub mod Canonical
pub mod Large
pub mod Order
pub mod Range
pub mod Writes
pub mod Spells
