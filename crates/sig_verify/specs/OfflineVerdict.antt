-- *Offline verification*: every link of the chain of trust of a bundle, from its texts on, as one result: the first
-- link that fails, or the entry that the log vouches for. The five groups of links come one after the other.
use Rattle.std.specs.Prelude.{◌≡◌, ◌⊎◌, ℕ, ℤ, true, List, Option, Some, None, option_map, Result, Ok, Err}
use Rattle.std.specs.Borrow.{Bor}
use Rattle.sig_base.specs.declared.error.SigstoreError.{SigstoreError}
use Rattle.sig_base.specs.declared.fault.TrustPart.TheVariants.{Fulcio, Ctfe}
use Rattle.sig_bundle.specs.BundleRecord.{bundle_in}
use Rattle.sig_bundle.specs.LogEntries.{only_entry}
use Rattle.sig_bundle.specs.declared.bundle.Bundle.{Bundle as BundleType}
use Rattle.sig_bundle.specs.declared.material.TransparencyLogEntry.{TransparencyLogEntry}
use Rattle.sig_bundle.specs.declared.material.VerificationMaterial.{VerificationMaterial}
use Rattle.sig_dsse.specs.declared.artifact_digest.ArtifactDigest.{ArtifactDigest}
use Rattle.sig_json.specs.declared.error.JsonError.{JsonError}
use Rattle.sig_root.specs.Picked.{authority_certificates, keys_of, unless_empty}
use Rattle.sig_root.specs.RootRecord.{trusted_root_in}
use Rattle.sig_root.specs.declared.record.TrustedRoot.{TrustedRoot}
use Rattle.sig_verify.specs.ContentCheck.{AcceptsSpki}
use Rattle.sig_verify.specs.EntryLinks.{LogKeys}
use Rattle.sig_verify.specs.LogEntry.{log_entry_answer}
use Rattle.sig_verify.specs.OfflineErrors.{of_root, of_verification}
use Rattle.sig_verify.specs.RootLinks.{rekor_keys}
use Rattle.sig_verify.specs.Verdict.{Answer, Checker, IsVerdict, PolicyOf}
use Rattle.sig_verify.specs.Verifier.{Authorities, CtKeys, IsRefusedRoot, IsVerifierOf, Trusted}
use Rattle.sig_verify.specs.declared.logged_entry.LoggedEntry.{LoggedEntry}
use Rattle.sig_verify.specs.declared.offline_error.OfflineError.{OfflineError}
use Rattle.sig_verify.specs.declared.offline_error.OfflineError.TheVariants.{Json}
use Rattle.sig_verify.specs.declared.offline_error.Part.{Part}
use Rattle.sig_verify.specs.declared.offline_error.Part.TheVariants.{Root, Bundle}

abbrev pub Outcome : Type 0
Outcome = Result LoggedEntry OfflineError

-- ---- what comes after a step, which ends the steps where it fails

abbrev pub AfterRead : {A : Type 0} → Part → Result A JsonError → (A → Outcome → Type 0) → Outcome → Type 0
AfterRead part (Ok value) Next result = Next value result
AfterRead part (Err why) Next result = result ≡ Err (Json part why)

abbrev pub AfterAnswer : Answer → (Outcome → Type 0) → Outcome → Type 0
AfterAnswer (Ok _) Next result = Next result
AfterAnswer (Err error) Next result = result ≡ Err (of_verification error)

-- ---- what the root has at the time

abbrev pub authorities_of : TrustedRoot → ℤ → Authorities
authorities_of root now = unless_empty Fulcio (authority_certificates now root.certificate_authorities)

abbrev pub ct_keys_of : TrustedRoot → ℤ → CtKeys
ct_keys_of root now = unless_empty Ctfe (keys_of now root.ctlogs)

-- ---- the entry

abbrev pub only_entry_among : Option VerificationMaterial → Option TransparencyLogEntry
only_entry_among None = None
only_entry_among (Some material) = only_entry material.tlog_entries

abbrev pub only_entry_of : BundleType → Option TransparencyLogEntry
only_entry_of bundle = only_entry_among bundle.verification_material

abbrev pub borrowed_entry : Option (Bor TransparencyLogEntry) → Option TransparencyLogEntry
borrowed_entry found = option_map (λ entry. entry.now) found

-- ---- the groups, the last first

-- `log-key` to `inclusion`, under these keys of logs
abbrev pub IsVouchedIn : AcceptsSpki → LogKeys → BundleType → Outcome → Type 0
IsVouchedIn spki keys bundle result =
    (entry : TransparencyLogEntry) × (only_entry_of bundle ≡ Some entry)
    × (result ≡ log_entry_answer spki keys entry)

-- `material` to `time`, and those
abbrev pub IsOfflineFrom : Checker → PolicyOf → Trusted → LogKeys → ArtifactDigest → BundleType → Outcome → Type 0
IsOfflineFrom k policy trusted keys d bundle result =
    (answer : Answer) × IsVerdict k trusted policy d true bundle answer
    × AfterAnswer answer (IsVouchedIn k.spki keys bundle) result

-- `fulcio`, `anchor` and `ctfe`, and those
abbrev pub IsOfflineOf : Checker → PolicyOf → TrustedRoot → ℤ → ArtifactDigest → BundleType → Outcome → Type 0
IsOfflineOf k policy root now d bundle result =
    ((error : SigstoreError) × IsRefusedRoot (authorities_of root now) (ct_keys_of root now) error ×
    (result ≡ Err (of_root error)))
    ⊎ ((trusted : Trusted) × IsVerifierOf (authorities_of root now) (ct_keys_of root now) trusted
    × IsOfflineFrom k policy trusted (rekor_keys root now) d bundle result)

-- `bundle-json`, and those
abbrev pub IsOfflineIn : Checker → PolicyOf → TrustedRoot → ℤ → ArtifactDigest → List ℕ → Outcome → Type 0
IsOfflineIn k policy root now d text result =
    AfterRead Bundle (bundle_in text) (IsOfflineOf k policy root now d) result

-- `root-json`, and those
abbrev pub IsOffline : Checker → PolicyOf → List ℕ → ℤ → ArtifactDigest → List ℕ → Outcome → Type 0
IsOffline k policy root_text now d text result =
    AfterRead Root (trusted_root_in root_text) (λ root. IsOfflineIn k policy root now d text) result
