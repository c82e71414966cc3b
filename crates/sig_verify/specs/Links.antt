-- The links of the chain of trust, in their order: what each asks of a trusted root's text, a time, a digest and a
-- bundle's text. The link `request` is the program's own.
use Rattle.std.specs.Prelude.{◌≡◌, ◌≢◌, ℕ, ℤ, true, List, [], ◌∷◌, None, Ok}
use Rattle.std.specs.List.{AllByRecursion}
use Rattle.sig_bundle.specs.BundleRecord.{bundle_in}
use Rattle.sig_checked_bundle.specs.Checked.{Checked}
use Rattle.sig_checked_bundle.specs.Passed.{IsMet, IsPassed}
use Rattle.sig_checked_bundle.specs.SigningCertificate.{IsNoRoot}
use Rattle.sig_bundle.specs.declared.bundle.Bundle.{Bundle}
use Rattle.sig_bundle.specs.declared.material.TransparencyLogEntry.{TransparencyLogEntry}
use Rattle.sig_certificate.specs.Profile.{leaf_refusal}
use Rattle.sig_dsse.specs.declared.artifact_digest.ArtifactDigest.{ArtifactDigest}
use Rattle.sig_root.specs.RootRecord.{trusted_root_in}
use Rattle.sig_root.specs.declared.record.TrustedRoot.{TrustedRoot}
use Rattle.sig_x509.specs.Issued.{HasProfile}
use Rattle.sig_verify.specs.BundleLinks.{AreFew, IsContentRead, OfCertificates, OfContent, OfEncodings, OfEntry}
use Rattle.sig_verify.specs.BundleLinks.{OfVersion}
use Rattle.sig_verify.specs.CertificateLinks.{HasIssuer, HasSignedBytes, IsAbout, IsSignedContent, IsTimely}
use Rattle.sig_verify.specs.CertificateLinks.{IsVouchedFor, OfScheme, Trust}
use Rattle.sig_verify.specs.EntryLinks.{HasCanonicalPromise, IsLed, IsNoteOf, IsNoteSignedBy, IsPlaced, IsPromisedBy}
use Rattle.sig_verify.specs.EntryLinks.{IsProofRead, LogKeys, OfCheckpoint, OfLogKey, OfProof}
use Rattle.sig_verify.specs.RootLinks.{IsSomeAnchor, OfTrust, authorities, ct_keys, rekor_keys}
use Rattle.sig_verify.specs.Verdict.{Checker, HasBody, PolicyOf}
use Rattle.sig_verify.specs.declared.link.Link.{Link}
use Rattle.sig_verify.specs.declared.link.Link.TheVariants.{Request, RootJson, BundleJson, Fulcio, Anchor, Ctfe}
use Rattle.sig_verify.specs.declared.link.Link.TheVariants.{Material, Certificate, Leaf, RootInChain, Content, Envelope}
use Rattle.sig_verify.specs.declared.link.Link.TheVariants.{Entry, Profile, Issuance, Issuer, Sct, Policy, Key}
use Rattle.sig_verify.specs.declared.link.Link.TheVariants.{Signature, Subject, Body, Time, LogKey, Promise, Proof}
use Rattle.sig_verify.specs.declared.link.Link.TheVariants.{Checkpoint, NoteKey, NoteMatch, Inclusion, Consistency}

pub record Inputs : Type 0 where
  pub root : List ℕ
  -- in whole seconds since 1970
  pub now : ℤ
  pub digest : ArtifactDigest
  pub bundle : List ℕ

-- what the caller decides: which signatures are genuine, and the policy
pub record Outside : Type 0 where
  pub checker : Checker
  pub policy : PolicyOf

-- ---- the parts that a link may be about

-- the text is a trusted root, and this holds of it
abbrev pub OfRoot : Inputs → (TrustedRoot → Type 0) → Type 0
OfRoot i P = (root : TrustedRoot) × (trusted_root_in i.root ≡ Ok root) × P root

-- the text is a bundle, and this holds of it
abbrev pub OfBundle : Inputs → (Bundle → Type 0) → Type 0
OfBundle i P = (b : Bundle) × (bundle_in i.bundle ≡ Ok b) × P b

-- the bundle passes its own checks, and this holds of what they return
abbrev pub OfPassed : Inputs → (Checked → Type 0) → Type 0
OfPassed i P = OfBundle i (λ b. (c : Checked) × IsPassed b c × P c)

-- this holds of the trust that the root gives and of the checked bundle
abbrev pub OfChecked : Inputs → (Trust → Checked → Type 0) → Type 0
OfChecked i P = OfRoot i (λ root. OfTrust root i.now (λ trust. OfPassed i (P trust)))

-- this holds of the keys of logs that the root gives and of the bundle's log entry
abbrev pub OfLogged : Inputs → (LogKeys → TransparencyLogEntry → Type 0) → Type 0
OfLogged i P = OfRoot i (λ root. OfPassed i (λ c. P (rekor_keys root i.now) c.entry))

-- ---- the links

abbrev pub chain_links : List Link
chain_links =
    RootJson ∷ BundleJson ∷ Fulcio ∷ Anchor ∷ Ctfe
    ∷ Material ∷ Certificate ∷ Leaf ∷ RootInChain ∷ Content ∷ Envelope ∷ Entry ∷ Profile
    ∷ Issuance ∷ Issuer ∷ Sct ∷ Policy ∷ Key ∷ Signature ∷ Subject ∷ Body ∷ Time
    ∷ LogKey ∷ Promise ∷ Proof ∷ Checkpoint ∷ NoteKey ∷ NoteMatch ∷ Inclusion ∷ []

-- What a link requires of inputs, if all links before it hold. Nothing has to be fetched: there is no network.
abbrev pub HoldsOf : Outside → Inputs → Link → Type 0
HoldsOf o i Request = Unit {0}
HoldsOf o i RootJson = OfRoot i (λ root. Unit {0})
HoldsOf o i BundleJson = OfBundle i (λ b. Unit {0})
HoldsOf o i Fulcio = OfRoot i (λ root. authorities root i.now ≢ [])
HoldsOf o i Anchor = OfRoot i (λ root. AllByRecursion IsSomeAnchor (authorities root i.now))
HoldsOf o i Ctfe = OfRoot i (λ root. ct_keys root i.now ≢ [])
HoldsOf o i Material = OfBundle i (λ b. OfEncodings b (λ ders. Unit {0}))
HoldsOf o i Certificate = OfBundle i (λ b. OfCertificates b (λ c further. AreFew further))
HoldsOf o i Leaf = OfBundle i (λ b. OfCertificates b (λ c further. leaf_refusal c ≡ None))
HoldsOf o i RootInChain = OfBundle i (λ b. OfCertificates b (λ c further. AllByRecursion IsNoRoot further))
HoldsOf o i Content = OfBundle i (λ b. OfContent b (λ content. Unit {0}))
HoldsOf o i Envelope = OfBundle i (λ b. OfContent b IsContentRead)
HoldsOf o i Entry = OfBundle i (λ b. OfEntry b (λ e. Unit {0}))
HoldsOf o i Profile = OfBundle i (λ b. OfVersion b (λ version. OfEntry b (IsMet version)))
HoldsOf o i Issuance = OfChecked i (λ trust c. HasProfile c.certificate)
HoldsOf o i Issuer = OfChecked i (λ trust c. HasIssuer o.checker trust c)
HoldsOf o i Sct =
    OfChecked i (λ trust c. HasSignedBytes c.certificate)
    × OfChecked i (λ trust c. IsVouchedFor o.checker trust c)
HoldsOf o i Policy = OfChecked i (λ trust c. o.policy.holds c.certificate ≡ true)
HoldsOf o i Key = OfChecked i (λ trust c. OfScheme c.certificate (λ scheme. Unit {0}))
HoldsOf o i Signature = OfChecked i (λ trust c. IsSignedContent o.checker i.digest c)
HoldsOf o i Subject = OfChecked i (λ trust c. IsAbout c.content i.digest)
HoldsOf o i Body = OfChecked i (λ trust c. HasBody c i.digest true)
HoldsOf o i Time = OfChecked i (λ trust c. IsTimely c)
HoldsOf o i LogKey = OfLogged i (λ keys e. OfLogKey keys e (λ key. Unit {0}))
HoldsOf o i Promise = OfLogged i (λ keys e. HasCanonicalPromise e) × OfLogged i
    (λ keys e. IsPromisedBy o.checker.spki keys e)
HoldsOf o i Proof = OfLogged i (λ keys e. OfProof e IsProofRead)
HoldsOf o i Checkpoint = OfLogged i (λ keys e. OfCheckpoint e (λ p n. Unit {0}))
HoldsOf o i NoteKey = OfLogged i (λ keys e. IsNoteSignedBy o.checker.spki keys e)
HoldsOf o i NoteMatch = OfLogged i (λ keys e. OfCheckpoint e IsNoteOf)
HoldsOf o i Inclusion = OfLogged i (λ keys e. OfProof e IsPlaced) × OfLogged i (λ keys e. OfProof e (IsLed e))
HoldsOf o i Consistency = Unit {0}

abbrev pub EveryChainLinkHolds : Outside → Inputs → Type 0
EveryChainLinkHolds o i = AllByRecursion (HoldsOf o i) chain_links
