-- A digest of an artifact: its algorithm and its bytes.
use Rattle.std.specs.Prelude.{ℕ, List, codes}
use Rattle.sig_dsse.specs.declared.artifact_digest.ArtifactDigest.{ArtifactDigest}
use Rattle.sig_dsse.specs.declared.artifact_digest.ArtifactDigest.TheVariants.{Sha256, Sha512}

abbrev pub digest_algorithm : ArtifactDigest → List ℕ
digest_algorithm (Sha256 bytes) = codes "sha256"
digest_algorithm (Sha512 bytes) = codes "sha512"

abbrev pub digest_bytes : ArtifactDigest → List ℕ
digest_bytes (Sha256 bytes) = bytes
digest_bytes (Sha512 bytes) = bytes
