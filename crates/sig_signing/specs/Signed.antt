-- How contracts see what was signed.
use Rattle.std.specs.Prelude.{ℕ, List}
use Rattle.sig_bundle.specs.declared.material.TransparencyLogEntry.{TransparencyLogEntry}

pub record Signed : Type 0 where
  -- the SHA-256 digest of the artifact
  pub input_digest : List ℕ
  -- the signing certificate (DER)
  pub cert : List ℕ
  pub signature : List ℕ
  pub log_entry : TransparencyLogEntry
