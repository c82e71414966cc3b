-- An artifact, whose bytes a source gives.
use Rattle.std.specs.Prelude.{◌≡◌, ℕ, ◌^◌, ◌≤◌, Option, List, length, Result, Err}
use Rattle.std.specs.Io.KnownBytes.{Consumes}
use Rattle.sha2.specs.Hashers.{Holds256}
use Rattle.sha2.specs.declared.Sha256.{Sha256}
use Rattle.sig_base.specs.Stream.{HandsOver}
use Rattle.sig_verify.specs.declared.artifact.InputFault.{InputFault}
use Rattle.sig_verify.specs.declared.error.VerificationError.{VerificationError}
use Rattle.sig_verify.specs.declared.error.VerificationError.TheVariants.{Input}

-- an artifact has at most this many bytes
abbrev pub most_artifact_bytes : ℕ
most_artifact_bytes = 2 ^ 40

-- all the bytes that were left were taken, at most as many as an artifact may have, and this holds of them
pub record OfRest (old new : Option (List ℕ)) (P : List ℕ → Type 0) : Type 0 where
  pub bytes : List ℕ
  pub given : HandsOver old new bytes
  pub few : length bytes ≤ most_artifact_bytes
  pub holds : P bytes

-- the bytes could not be read
abbrev pub IsUnread : {A : Type 0} → Result A VerificationError → Type 0
IsUnread result = (fault : InputFault) × (result ≡ Err (Input fault))

-- a hasher holds the bytes that were taken, and `count` is their number
pub record IsHashed (old new : Option (List ℕ)) (hasher : Sha256) (count : ℕ) : Type 0 where
  pub bytes : List ℕ
  pub taken : Consumes old new bytes
  pub held : Holds256 hasher bytes
  pub counted : length bytes ≡ count
