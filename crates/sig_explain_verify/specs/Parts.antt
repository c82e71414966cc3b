-- What the texts are read as, and what is taken from it; nothing if a text cannot be read.
use Rattle.std.specs.Prelude.{◌≡◌, ℕ, ℤ, List, Option, Some, None, Result, slice_get}
use Rattle.std.specs.List.{AllZip}
use Rattle.std.specs.Result.{result_ok}
use Rattle.sig_base.specs.OptionSteps.{◌>>=◌}
use Rattle.sig_base.specs.declared.scheme.VerifyScheme.{VerifyScheme}
use Rattle.sig_bundle.specs.BundleRecord.{bundle_in}
use Rattle.sig_bundle.specs.Proof.{proof_or_fault}
use Rattle.sig_bundle.specs.Promise.{promise_tree_of}
use Rattle.sig_bundle.specs.declared.bundle.Bundle.{Bundle}
use Rattle.sig_bundle.specs.declared.material.TransparencyLogEntry.{TransparencyLogEntry}
use Rattle.sig_certificate.specs.Certificate.{Cert, IsCertificate}
use Rattle.sig_checked_bundle.specs.Checked.{Checked, IsChecked}
use Rattle.sig_checked_bundle.specs.declared.bundle_error.BundleErrorKind.{BundleErrorKind}
use Rattle.sig_json_text.specs.Canonical.{canonical_of}
use Rattle.sig_key.specs.Kind.{key_kind, kind_answer}
use Rattle.sig_rekor.specs.declared.checkpoint.SignedCheckpoint.{SignedCheckpoint}
use Rattle.sig_rekor.specs.declared.inclusion_proof.InclusionProof.{InclusionProof}
use Rattle.sig_root.specs.RootRecord.{trusted_root_in}
use Rattle.sig_root.specs.declared.record.TrustedRoot.{TrustedRoot}
use Rattle.sig_verify.specs.LogEntry.{log_key_answer}
use Rattle.sig_verify.specs.OfflineVerdict.{only_entry_of}
use Rattle.sig_verify.specs.RootLinks.{authorities, rekor_keys}

-- ---- the trusted root

-- the trusted root that a text is
abbrev pub root_in : List ℕ → Option TrustedRoot
root_in text = result_ok (trusted_root_in text)

-- the certificates that the bytes are, one by one, if each is one of this kind
abbrev pub AreReadAll : (List ℕ → Cert → Type 0) → List (List ℕ) → Option (List Cert) → Type 0
AreReadAll Is ders (Some certificates) = AllZip Is ders certificates
AreReadAll Is ders None = (index : ℕ) × (der : List ℕ) × (slice_get ders index ≡ Some der) × ((c : Cert) → ¬ Is der c)

-- one of them
abbrev pub IsReadOne : List ℕ → Option Cert → Type 0
IsReadOne der (Some certificate) = IsCertificate der certificate
IsReadOne der None = (c : Cert) → ¬ IsCertificate der c

-- the certificates of the authorities that have begun at a time
abbrev pub AreAuthorities : (List ℕ → Cert → Type 0) → Option TrustedRoot → ℤ → Option (List Cert) → Type 0
AreAuthorities Is None now found = found ≡ None
AreAuthorities Is (Some root) now found = AreReadAll Is (authorities root now) found

-- the scheme and the key of the log of this id, which the root has at a time
abbrev pub log_key_of : ℤ → Option (List ℕ) → TrustedRoot → Option (VerifyScheme × List ℕ)
log_key_of now id root = result_ok (log_key_answer (rekor_keys root now) id)

-- ---- the bundle

-- what the bundle's own checks leave of it, if it passes them
abbrev pub IsCheckedOf : Option Bundle → Option Checked → Type 0
IsCheckedOf None found = found ≡ None
IsCheckedOf (Some bundle) found =
    (answer : Result Checked BundleErrorKind) × IsChecked bundle answer × (found ≡ result_ok answer)

abbrev pub IsCheckedIn : List ℕ → Option Checked → Type 0
IsCheckedIn text found = IsCheckedOf (result_ok (bundle_in text)) found

-- its only log entry
abbrev pub entry_in : List ℕ → Option TransparencyLogEntry
entry_in text = result_ok (bundle_in text) >>= only_entry_of

-- the scheme and the key of a certificate, if signatures are checked with it
abbrev pub certificate_key : Cert → Option (VerifyScheme × List ℕ)
certificate_key c = result_ok (kind_answer c.spki (key_kind c.spki))

-- ---- the log entry

abbrev pub promise_text_of : TransparencyLogEntry → Option (List ℕ)
promise_text_of entry = result_ok (canonical_of (promise_tree_of entry))

abbrev pub proof_of : TransparencyLogEntry → Option InclusionProof
proof_of entry = entry.inclusion_proof >>= λ fields. result_ok (proof_or_fault fields)

-- the proof's checkpoint
abbrev pub checkpoint_of : TransparencyLogEntry → Option SignedCheckpoint
checkpoint_of entry = proof_of entry >>= λ proof. proof.checkpoint
