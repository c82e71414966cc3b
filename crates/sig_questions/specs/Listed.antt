-- What is listed, call by call.
use Rattle.std.specs.Prelude.{◌≡◌, ◌≢◌, ◌↔◌, ℕ, ◌<◌, ◌≤◌, ℤ, List, [], Contains, Result, Ok, Err}
use Rattle.std.specs.List.{AllByRecursion}
use Rattle.sig_base.specs.declared.checker.AcceptedRow.{AcceptedRow}
use Rattle.sig_bundle.specs.BundleRecord.{bundle_in}
use Rattle.sig_checked_bundle.specs.Checked.{Checked}
use Rattle.sig_checked_bundle.specs.Passed.{IsPassed}
use Rattle.sig_certificate.specs.Certificates.{AreCertificates}
use Rattle.sig_bundle.specs.declared.bundle.Bundle.{Bundle}
use Rattle.sig_dsse.specs.declared.artifact_digest.ArtifactDigest.{ArtifactDigest}
use Rattle.sig_root.specs.RootRecord.{trusted_root_in}
use Rattle.sig_root.specs.declared.record.TrustedRoot.{TrustedRoot}
use Rattle.sig_timestamp.specs.RingKey.{point_at}
use Rattle.sig_verify.specs.CertificateLinks.{Trust}
use Rattle.sig_verify.specs.EntryLinks.{IsOfBytes, LogKeys}
use Rattle.sig_verify.specs.LinkLaws.{IsReadCertificate}
use Rattle.sig_verify.specs.Links.{Inputs}
use Rattle.sig_verify.specs.RootLinks.{authorities, ct_keys, rekor_keys}
use Rattle.sig_verify.specs.Verifier.{HasKeys}
use Rattle.sig_verify.specs.declared.link.Link.TheVariants.{Issuer}
use Rattle.sig_questions.specs.Lists.{certificate_questions, questions_of}
use Rattle.sig_questions.specs.Questions.{HoldsUnasked, IsDecided, front_links}
use Rattle.sig_questions.specs.Asked.{IsAskedBy}
use Rattle.sig_questions.specs.Order.{AreInOrder, IsAskedAt}
use Rattle.sig_questions.specs.Rows.{bytes_of_rows}
use Rattle.sig_questions.specs.declared.listing.NoQuestions.{NoQuestions}
use Rattle.sig_questions.specs.declared.listing.NoQuestions.TheVariants.{Link, TooLong, OutOfMemory}
use Rattle.sig_questions.specs.declared.trust.TrustParts.{TrustParts}

abbrev pub Listing : Type 0
Listing = Result (List AcceptedRow) NoQuestions

abbrev pub trust_in : TrustParts → Trust
trust_in parts = record { anchors = parts.anchors; points = point_at parts.keyring }

-- all rows, unless there is no row of a certificate, or they are too long
abbrev pub AreListedAs : List AcceptedRow → List AcceptedRow → ℕ → Listing → Type 0
AreListedAs signed all most (Ok rows) = (rows ≡ all) × (signed ≢ []) × (bytes_of_rows rows ≤ most)
AreListedAs signed all most (Err TooLong) = (signed ≢ []) × (most < bytes_of_rows all)
AreListedAs signed all most (Err (Link link)) = (link ≡ Issuer) × (signed ≡ [])
AreListedAs signed all most (Err OutOfMemory) = Unit {0}

abbrev pub AreListed : ArtifactDigest → Trust → LogKeys → Checked → ℕ → Listing → Type 0
AreListed d trust keys c most result =
    AreListedAs (certificate_questions trust c) (questions_of d trust keys c) most result

-- what the root gives at a time
pub record GivesTrust (root : TrustedRoot) (now : ℤ) (parts : TrustParts) : Type 0 where
  pub anchors : AreCertificates (authorities root now) parts.anchors
  pub ring : HasKeys (ct_keys root now) parts.keyring
  pub keys : parts.log_keys ≡ rekor_keys root now

-- where the certificate is read as it is, and the entry is bytes
abbrev pub ReadIfOk : TrustParts → Checked → Listing → Type 0
ReadIfOk parts c (Ok rows) = IsReadCertificate c × IsOfBytes parts.log_keys c.entry
ReadIfOk parts c (Err error) = Unit {0}

-- what is listed for a bundle, under a root
pub record AreListedOf (root : TrustedRoot) (now : ℤ) (d : ArtifactDigest) (b : Bundle) (most : ℕ)
    (result : Listing) : Type 0 where
  pub parts : TrustParts
  pub gives : GivesTrust root now parts
  pub checked : Checked
  pub passed : IsPassed b checked
  pub listed : AreListed d (trust_in parts) parts.log_keys checked most result
  pub read : ReadIfOk parts checked result

-- whatever root gives this
abbrev pub AreListedUnder : TrustParts → ArtifactDigest → Bundle → ℕ → Listing → Type 0
AreListedUnder parts d b most result =
    (root : TrustedRoot) (now : ℤ) → GivesTrust root now parts → AreListedOf root now d b most result

abbrev pub AreListedIn : TrustedRoot → ℤ → ArtifactDigest → List ℕ → ℕ → Listing → Type 0
AreListedIn root now d text most result = (b : Bundle) × (bundle_in text ≡ Ok b) × AreListedOf root now d b most result

abbrev pub AreListedText : List ℕ → ℤ → ArtifactDigest → List ℕ → ℕ → Listing → Type 0
AreListedText root_text now d text most result =
    (root : TrustedRoot) × (trusted_root_in root_text ≡ Ok root) × AreListedIn root now d text most result

-- ---- what that means, where the links hold that ask for no signature

pub record IsAnswered (i : Inputs) (most : ℕ) (result : Listing) : Type 0 where
  pub asked : (rows : List AcceptedRow) → result ≡ Ok rows → (row : AcceptedRow) → Contains rows row ↔ IsAskedBy i row
  pub ordered : (rows : List AcceptedRow) → result ≡ Ok rows → AreInOrder (IsAskedAt i) rows
  pub decided : IsDecided i most result

abbrev pub ListedTextsAreAnswered : Type 0
ListedTextsAreAnswered = (i : Inputs) (most : ℕ) (result : Listing) → AllByRecursion (HoldsUnasked i) front_links
    → AreListedText i.root i.now i.digest i.bundle most result → IsAnswered i most result
