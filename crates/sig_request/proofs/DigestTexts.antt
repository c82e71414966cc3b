-- Texts of digests, both ways.
use Rattle.std.proofs.Common.{◌≡◌, ℕ, List, ◌++◌, drop, codes, Bor, MatchOption}
use Rattle.std.proofs.Common.{Option, Some, None, option_map, Ok, refl, sym, ap, subst, ◌∙◌}
use Rattle.std.specs.Option.{option_or}
use Rattle.std.specs.Result.{result_ok}
use Rattle.std.specs.Str.Pattern.{FindsTextPrefix, StripsPrefix}
use Rattle.hex.specs.Hex.{decode_sized}
use Rattle.sig_base.proofs.OptionSteps.{some_is}
use Rattle.sig_base.proofs.ResultSteps.{ok_from}
use Rattle.sig_base.specs.OptionSteps.{◌>>=◌}
use Rattle.sig_dsse.specs.declared.artifact_digest.ArtifactDigest.{ArtifactDigest}
use Rattle.sig_dsse.specs.declared.artifact_digest.ArtifactDigest.TheVariants.{Sha256, Sha512}
use Rattle.sig_rekor.proofs.CutLaws.{after_separator-at, after_separator-none, after_separator-some}
use Rattle.sig_rekor.specs.TextCuts.{after_separator}
use Rattle.sig_request.specs.DigestText.{IsDigestText, bytes_after, digest_in}

-- what `strip_prefix` leaves
pub stripped : (beginning text : List ℕ) (rest : Option (Bor (List ℕ)))
    → MatchOption rest (FindsTextPrefix beginning text None)
    (λ x. StripsPrefix (FindsTextPrefix beginning) text x.now)
    → option_map (λ x. x.now) rest ≡ after_separator beginning text
stripped beginning text None lacks = sym (after_separator-none beginning text lacks)
stripped beginning text (Some x) found =
    let at : text ≡ beginning ++ drop found.0 text = found.1.1 in
    let rest : x.now ≡ drop found.0 text = found.2 in
    ap Some rest ∙ sym (ap (after_separator beginning) at ∙ after_separator-at beginning (drop found.0 text))

-- the digits that bytes are read from
pub bytes_after-some : (beginning : List ℕ) (size : ℕ) (text bytes : List ℕ)
    → bytes_after beginning size text ≡ Some bytes
    → (digits : List ℕ) × (text ≡ beginning ++ digits) × (decode_sized digits size ≡ Ok bytes)
bytes_after-some beginning size text bytes = by (after_separator beginning text) refl where
  by : (o : Option (List ℕ)) → after_separator beginning text ≡ o
      → (o >>= λ digits. result_ok (decode_sized digits size)) ≡ Some bytes
      → (digits : List ℕ) × (text ≡ beginning ++ digits) × (decode_sized digits size ≡ Ok bytes)
  by None is same = cc
  by (Some digits) is same =
      (digits, after_separator-some beginning text digits is, ok_from (decode_sized digits size) bytes same)

-- bytes after a beginning
pub bytes_after-at : (beginning digits : List ℕ) (size : ℕ) (bytes : List ℕ) → decode_sized digits size ≡ Ok bytes
    → bytes_after beginning size (beginning ++ digits) ≡ Some bytes
bytes_after-at beginning digits size bytes is = rw (after_separator-at beginning digits, is) refl

-- a digest that is read has this text
pub digest-found : (text : List ℕ) (digest : ArtifactDigest) → digest_in text ≡ Some digest
    → IsDigestText text digest
unfolding digest_in
digest-found text digest =
    by (bytes_after (codes "sha256:") 32 text) (bytes_after (codes "sha512:") 64 text) refl refl where
      by : (narrow wide : Option (List ℕ)) → bytes_after (codes "sha256:") 32 text ≡ narrow
          → bytes_after (codes "sha512:") 64 text ≡ wide
          → option_or (option_map Sha256 narrow) (option_map Sha512 wide) ≡ Some digest → IsDigestText text digest
      by (Some bytes) wide is _ same =
          let at = bytes_after-some (codes "sha256:") 32 text bytes is in
          subst (IsDigestText text) (some_is _ _ same) record { digits = at.0; whole = at.1; bytes = at.2 }
      by None (Some bytes) _ is same =
          let at = bytes_after-some (codes "sha512:") 64 text bytes is in
          subst (IsDigestText text) (some_is _ _ same) record { digits = at.0; whole = at.1; bytes = at.2 }
      by None None _ _ same = cc

-- the digest of a text is read
pub digest-only : (text : List ℕ) (digest : ArtifactDigest) → IsDigestText text digest
    → digest_in text ≡ Some digest
unfolding digest_in
digest-only text (Sha256 bytes) is =
    rw (is.whole, bytes_after-at (codes "sha256:") is.digits 32 bytes is.bytes) refl
digest-only text (Sha512 bytes) is =
    rw (is.whole, bytes_after-at (codes "sha512:") is.digits 64 bytes is.bytes) refl

pub ruleset texts = (digest-found, digest-only)
