-- What the results of the checks say of the links, group by group.
use Rattle.std.specs.Prelude.{◌≡◌, ◌≢◌, ℤ, Bool, [], ◌∷◌, ◌++◌, Result, Ok, Err}
use Rattle.std.specs.List.{AllByRecursion}
use Rattle.sig_base.specs.ByteLists.{AreBytes}
use Rattle.sig_base.specs.declared.error.SigstoreError.{SigstoreError}
use Rattle.sig_base.specs.declared.error.SigstoreError.TheVariants.{OutOfMemory}
use Rattle.sig_checked_bundle.specs.Checked.{Checked, IsChecked}
use Rattle.sig_checked_bundle.specs.Passed.{IsPassed}
use Rattle.sig_bundle.specs.Proof.{IsProof}
use Rattle.sig_bundle.specs.declared.bundle.Bundle.{Bundle}
use Rattle.sig_checked_bundle.specs.declared.bundle_error.BundleErrorKind.{BundleErrorKind}
use Rattle.sig_bundle.specs.declared.material.TransparencyLogEntry.{TransparencyLogEntry}
use Rattle.sig_dsse.specs.declared.artifact_digest.ArtifactDigest.{ArtifactDigest}
use Rattle.sig_root.specs.declared.record.TrustedRoot.{TrustedRoot}
use Rattle.sig_timestamp.specs.Embedded.{IsSaidOf}
use Rattle.sig_timestamp.specs.RingKey.{point_at}
use Rattle.sig_timestamp.specs.Timestamps.{sct_of}
use Rattle.sig_verify.specs.BundleLinks.{HoldsOfBundle, bundle_links}
use Rattle.sig_verify.specs.CertificateLinks.{HoldsOfChecked, Trust, certificate_links}
use Rattle.sig_verify.specs.ContentCheck.{AcceptsSpki, content_answer, time_answer}
use Rattle.sig_verify.specs.EntryLinks.{HoldsOfEntry, IsOfBytes, LogKeys, OfProof, entry_links}
use Rattle.sig_verify.specs.IssuerCheck.{issued_answer}
use Rattle.sig_verify.specs.Judged.{IsOfFirst, Tells}
use Rattle.sig_verify.specs.LogEntry.{log_entry_answer}
use Rattle.sig_verify.specs.OfflineErrors.{of_root, of_verification}
use Rattle.sig_verify.specs.OfflineVerdict.{authorities_of, ct_keys_of}
use Rattle.sig_verify.specs.RootLinks.{HoldsOfRoot, root_links}
use Rattle.sig_verify.specs.Verdict.{Answer, Checker, IsVerdictFromIssuance, IsVerdict, PolicyOf}
use Rattle.sig_verify.specs.Verifier.{IsRefusedRoot, IsVerifierOf, Trusted}
use Rattle.sig_verify.specs.declared.error.VerificationError.{VerificationError}
use Rattle.sig_verify.specs.declared.link.Link.{Link}
use Rattle.sig_verify.specs.declared.link.Link.TheVariants.{Issuance, Issuer, Sct, Policy, Key, Signature, Subject}
use Rattle.sig_verify.specs.declared.link.Link.TheVariants.{Body, Time}
use Rattle.sig_verify.specs.declared.logged_entry.LoggedEntry.{LoggedEntry}
use Rattle.sig_verify.specs.declared.offline_error.OfflineError.{OfflineError}
use Rattle.sig_verify.specs.declared.offline_error.OfflineError.TheVariants.{Bundle as Refused}

-- a log's entry gives a value if and only if the links `log-key` to `inclusion` hold, and an error is that of the first
-- that does not
abbrev pub EntriesAreJudged : Type 0
EntriesAreJudged = (spki : AcceptsSpki) (keys : LogKeys) (e : TransparencyLogEntry) → IsOfBytes keys e
    → Tells (HoldsOfEntry spki keys e) entry_links (log_entry_answer spki keys e)

-- the value is the entry's body, with the proof that its members are
pub record IsKept (e : TransparencyLogEntry) (offline : LoggedEntry) : Type 0 where
  pub body : offline.body ≡ e.canonicalized_body
  pub proof : OfProof e (λ p. IsProof p offline.proof)

abbrev pub EntriesAreKept : Type 0
EntriesAreKept = (spki : AcceptsSpki) (keys : LogKeys) (e : TransparencyLogEntry) (offline : LoggedEntry)
    → log_entry_answer spki keys e ≡ Ok offline → IsKept e offline

-- a bundle's own checks pass if and only if the links `material` to `profile` hold, and an error is that of the first
-- that does not
pub record BundlesAreJudged : Type 0 where
  pub passed : (b : Bundle) (c : Checked) → IsChecked b (Ok c) → AllByRecursion (HoldsOfBundle b) bundle_links
  pub passes : (b : Bundle) → AllByRecursion (HoldsOfBundle b) bundle_links → (c : Checked) × IsChecked b (Ok c)
  pub refused : (b : Bundle) (kind : BundleErrorKind) → IsChecked b (Err kind)
      → IsOfFirst (HoldsOfBundle b) bundle_links (Refused kind)

-- ---- the checks of a verifier

-- the errors of a verifier as those of the chain of trust
abbrev pub renamed : {A : Type 0} → Result A VerificationError → Result A OfflineError
renamed (Ok x) = Ok x
renamed (Err error) = Err (of_verification error)

-- the result for a certificate's key is that of the first of the links `key`, `signature` and `subject` that fails
abbrev pub ContentsAreJudged : Type 0
ContentsAreJudged =
    (k : Checker) (policy : PolicyOf) (trust : Trust) (d : ArtifactDigest) (offline : Bool) (c : Checked)
    → AreBytes c.certificate.spki
    → Tells (HoldsOfChecked k policy trust d offline c) (Key ∷ Signature ∷ Subject ∷ [])
    (renamed (content_answer k.spki k.prehash d c))

-- the result for the time of the log entry
abbrev pub TimesAreJudged : Type 0
TimesAreJudged = (k : Checker) (policy : PolicyOf) (trust : Trust) (d : ArtifactDigest) (offline : Bool) (c : Checked)
    → Tells (HoldsOfChecked k policy trust d offline c) (Time ∷ []) (renamed (time_answer c))

-- the trust anchors, and the points of the ring
abbrev pub trust_of : Trusted → Trust
trust_of trusted = record { anchors = trusted.anchors; points = point_at trusted.ring }

-- if the reader of SCTs says what a certificate has, the result for it is that of the first of the links `issuance`,
-- `issuer` and `sct` that fails
abbrev pub IssuersAreJudged : Type 0
IssuersAreJudged =
    (k : Checker) (policy : PolicyOf) (trusted : Trusted) (d : ArtifactDigest) (offline : Bool) (c : Checked)
    → IsSaidOf c.certificate (sct_of c.certificate)
    → Tells (HoldsOfChecked k policy (trust_of trusted) d offline c) (Issuance ∷ Issuer ∷ Sct ∷ [])
    (renamed (issued_answer k.cert k.point trusted c))

-- the certificate's key is bytes, and the reader of SCTs says what the certificate has
pub record IsReadCertificate (c : Checked) : Type 0 where
  pub spki : AreBytes c.certificate.spki
  pub sct : IsSaidOf c.certificate (sct_of c.certificate)

-- the result for a bundle that passed its own checks is that of the first of the links `issuance` to `time` that fails
abbrev pub CheckedAreJudged : Type 0
CheckedAreJudged =
    (k : Checker) (policy : PolicyOf) (trusted : Trusted) (d : ArtifactDigest) (offline : Bool) (c : Checked)
    → IsReadCertificate c
    → (result : Answer) → IsVerdictFromIssuance k trusted policy d offline c result
    → Tells (HoldsOfChecked k policy (trust_of trusted) d offline c) certificate_links (renamed result)

-- the bundle passes its own checks, and the link holds of what they return
abbrev pub OfPassedBundle : Checker → PolicyOf → Trust → ArtifactDigest → Bool → Bundle → Link → Type 0
OfPassedBundle k policy trust d offline b link =
    (c : Checked) × IsPassed b c × HoldsOfChecked k policy trust d offline c link

-- what the links `material` to `time` require of a bundle
abbrev pub HoldsOfVerified : Checker → PolicyOf → Trust → ArtifactDigest → Bool → Bundle → Link → Type 0
HoldsOfVerified k policy trust d offline b Issuance = OfPassedBundle k policy trust d offline b Issuance
HoldsOfVerified k policy trust d offline b Issuer = OfPassedBundle k policy trust d offline b Issuer
HoldsOfVerified k policy trust d offline b Sct = OfPassedBundle k policy trust d offline b Sct
HoldsOfVerified k policy trust d offline b Policy = OfPassedBundle k policy trust d offline b Policy
HoldsOfVerified k policy trust d offline b Key = OfPassedBundle k policy trust d offline b Key
HoldsOfVerified k policy trust d offline b Signature = OfPassedBundle k policy trust d offline b Signature
HoldsOfVerified k policy trust d offline b Subject = OfPassedBundle k policy trust d offline b Subject
HoldsOfVerified k policy trust d offline b Body = OfPassedBundle k policy trust d offline b Body
HoldsOfVerified k policy trust d offline b Time = OfPassedBundle k policy trust d offline b Time
HoldsOfVerified k policy trust d offline b link = HoldsOfBundle b link

-- the result of a verifier for a bundle is that of the first of the links `material` to `time` that fails
abbrev pub VerdictsAreJudged : Type 0
VerdictsAreJudged =
    (k : Checker) (policy : PolicyOf) (trusted : Trusted) (d : ArtifactDigest) (offline : Bool) (b : Bundle)
    → ((c : Checked) → IsPassed b c → IsReadCertificate c) → (result : Answer)
    → IsVerdict k trusted policy d offline b result
    → Tells (HoldsOfVerified k policy (trust_of trusted) d offline b) (bundle_links ++ certificate_links)
    (renamed result)

-- a trusted root gives a verifier at a time only if the links `fulcio`, `anchor` and `ctfe` hold, and an error is that
-- of the first that does not, unless memory ran out
pub record RootsAreJudged : Type 0 where
  pub made : (root : TrustedRoot) (now : ℤ) (trusted : Trusted)
      → IsVerifierOf (authorities_of root now) (ct_keys_of root now) trusted
      → AllByRecursion (HoldsOfRoot root now) root_links
  pub refused : (root : TrustedRoot) (now : ℤ) (error : SigstoreError)
      → IsRefusedRoot (authorities_of root now) (ct_keys_of root now) error → error ≢ OutOfMemory
      → IsOfFirst (HoldsOfRoot root now) root_links (of_root error)
