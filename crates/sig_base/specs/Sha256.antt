-- SHA-256 (FIPS 180-4 section 6.2), a function from a list of bytes to 32 bytes.
pub use Rattle.sha2.specs.Sha256.{sha256}
