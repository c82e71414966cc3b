pub mod Chosen
pub mod Table
pub mod Kinds
pub mod DocumentFault
pub mod Fault
pub mod First
pub mod PathText
pub mod TableOf
