pub mod Cause
pub mod KeptRows
pub mod Names
pub mod Refusal
pub mod Rules
