pub mod Consistency
pub mod Head
pub mod Log
pub mod Refusals
pub mod Request
pub mod Trees
