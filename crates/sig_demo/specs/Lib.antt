pub mod Log
pub mod Request
