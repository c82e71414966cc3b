pub mod Accepted
pub mod Authorities
pub mod Body
pub mod Checks
pub mod Fault
pub mod Issuer
pub mod Logs
pub mod Trees
