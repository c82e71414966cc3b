-- The text of an artifact's digest: `sha256:` and 64 hexadecimal digits in either case (RFC 4648 section 8), or
-- `sha512:` and 128.
use Rattle.std.specs.Prelude.{◌≡◌, ℕ, List, ◌++◌, codes, Option, option_map, Ok}
use Rattle.std.specs.Option.{option_or}
use Rattle.std.specs.Result.{result_ok}
use Rattle.hex.specs.Hex.{decode_sized}
use Rattle.sig_base.specs.OptionSteps.{◌>>=◌}
use Rattle.sig_dsse.specs.Digest.{digest_algorithm, digest_bytes}
use Rattle.sig_dsse.specs.NamedDigest.{digest_len}
use Rattle.sig_dsse.specs.declared.artifact_digest.ArtifactDigest.{ArtifactDigest}
use Rattle.sig_dsse.specs.declared.artifact_digest.ArtifactDigest.TheVariants.{Sha256, Sha512}
use Rattle.sig_json.specs.Data.{Data}
use Rattle.sig_json.specs.Kinds.{text_of}
use Rattle.sig_rekor.specs.TextCuts.{after_separator}

-- the text is the algorithm's name, a colon, and the digest's bytes in hexadecimal digits
pub record IsDigestText (text : List ℕ) (digest : ArtifactDigest) : Type 0 where
  pub digits : List ℕ
  pub whole : text ≡ digest_algorithm digest ++ (codes ":" ++ digits)
  pub bytes : decode_sized digits (digest_len digest) ≡ Ok (digest_bytes digest)

-- the bytes, `size` of them, whose digits follow this beginning of the text
abbrev pub bytes_after : List ℕ → ℕ → List ℕ → Option (List ℕ)
bytes_after beginning size text = after_separator beginning text >>= λ digits. result_ok (decode_sized digits size)

unfoldable pub digest_in : List ℕ → Option ArtifactDigest
digest_in text =
    option_or (option_map Sha256 (bytes_after (codes "sha256:") 32 text))
    (option_map Sha512 (bytes_after (codes "sha512:") 64 text))

unfoldable pub digest_kind : Data → Option ArtifactDigest
digest_kind d = text_of d >>= digest_in
