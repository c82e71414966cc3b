pub mod Certificate
pub mod Statement
pub mod Verified
