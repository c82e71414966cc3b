pub mod CallResults
pub mod Satisfied
pub mod Applied
pub mod Marked
pub mod Texts
pub mod Subjects
pub mod Keyed
pub mod Certified
