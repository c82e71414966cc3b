-- What the result of offline verification says of the links, all of them in one.
use Rattle.std.specs.Prelude.{◌≡◌, ℕ, List, [], Some, unwrap_or, Ok}
use Rattle.sig_base.specs.Answers.{UnlessMemory}
use Rattle.sig_base.specs.ByteLists.{AreBytes}
use Rattle.sig_bundle.specs.BundleRecord.{bundle_in}
use Rattle.sig_checked_bundle.specs.Checked.{Checked}
use Rattle.sig_checked_bundle.specs.OfBytes.{HasCertificateOfBytes}
use Rattle.sig_checked_bundle.specs.Passed.{IsPassed}
use Rattle.sig_bundle.specs.declared.bundle.Bundle.{Bundle}
use Rattle.sig_bundle.specs.declared.material.TransparencyLogEntry.{TransparencyLogEntry}
use Rattle.sig_root.specs.RootRecord.{trusted_root_in}
use Rattle.sig_root.specs.declared.record.TrustedRoot.{TrustedRoot}
use Rattle.sig_verify.specs.EntryLinks.{IsOfBytes}
use Rattle.sig_verify.specs.Judged.{Judged, Tells}
use Rattle.sig_verify.specs.LinkLaws.{IsKept, IsReadCertificate}
use Rattle.sig_verify.specs.Links.{HoldsOf, Inputs, OfPassed, Outside, chain_links}
use Rattle.sig_verify.specs.OfflineVerdict.{IsOffline, Outcome, only_entry_of}
use Rattle.sig_verify.specs.RootLinks.{rekor_keys}
use Rattle.sig_verify.specs.declared.logged_entry.LoggedEntry.{LoggedEntry}
use Rattle.sig_verify.specs.declared.offline_error.OfflineError.TheVariants.{OutOfMemory}

-- ---- bytes

-- body and log id of a bundle's only log entry are bytes
abbrev pub HasEntryOfBytes : Bundle → Type 0
HasEntryOfBytes b =
    (e : TransparencyLogEntry) → only_entry_of b ≡ Some e
    → AreBytes e.canonicalized_body × AreBytes (unwrap_or e.log_id [])

-- the certificate and the only log entry of the bundle that a text is are bytes
abbrev pub IsOfBundleOfBytes : List ℕ → Type 0
IsOfBundleOfBytes text =
    (b : Bundle) → bundle_in text ≡ Ok b → HasCertificateOfBytes b × HasEntryOfBytes b

-- For the root and the bundle that the texts are, keys, log id and body are bytes, and the reader of SCTs says what the
-- certificate has.
pub record AreReadInputs (i : Inputs) : Type 0 where
  pub checked : (root : TrustedRoot) (b : Bundle) (c : Checked)
      → trusted_root_in i.root ≡ Ok root → bundle_in i.bundle ≡ Ok b → IsPassed b c → IsReadCertificate c
  pub logged : (root : TrustedRoot) (b : Bundle) (c : Checked)
      → trusted_root_in i.root ≡ Ok root → bundle_in i.bundle ≡ Ok b → IsPassed b c
      → IsOfBytes (rekor_keys root i.now) c.entry

-- There is a value if and only if every link holds, and an error's link is the first that does not. The value is the
-- body of the bundle's log entry, with the proof that its members are.
pub record IsOutcomeOf (o : Outside) (i : Inputs) (result : Outcome) : Type 0 where
  pub judged : Judged (HoldsOf o i) chain_links result
  pub tells : Tells (HoldsOf o i) chain_links result
  pub kept : (offline : LoggedEntry) → result ≡ Ok offline → OfPassed i (λ c. IsKept c.entry offline)

-- the result of offline verification for a trusted root's text, a time, a digest and a bundle's text is this, unless
-- memory ran out
abbrev pub OutcomesAreJudged : Type 0
OutcomesAreJudged =
    (o : Outside) (i : Inputs) → AreReadInputs i → (result : Outcome)
    → IsOffline o.checker o.policy i.root i.now i.digest i.bundle result
    → UnlessMemory OutOfMemory result (IsOutcomeOf o i result)
