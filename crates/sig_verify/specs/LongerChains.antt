-- *Longer chains stay valid*: where a trust anchor issued the certificate itself, further certificates change nothing.
use Rattle.std.specs.Prelude.{◌≡◌, ◌↔◌, ℕ, List, [], true, Some}
use Rattle.sig_certificate.specs.Certificate.{Cert}
use Rattle.sig_checked_bundle.specs.Checked.{Checked}
use Rattle.sig_timestamp.specs.SctBytes.{signed_bytes, signed_of}
use Rattle.sig_x509.specs.Issuance.{Accepts}
use Rattle.sig_x509.specs.Issued.{IsFirstIssuer}
use Rattle.sig_x509.specs.Path.{IsFirstInPath}
use Rattle.sig_x509.specs.declared.issuer.Issuer.TheVariants.{Anchor}
use Rattle.sig_verify.specs.CertificateLinks.{HasIssuer, IsAbout, IsSignedContent, IsTimely, IsVouchedFor, OfSct, Trust}
use Rattle.sig_verify.specs.EntryLinks.{IsLed, IsNoteOf, IsNoteSignedBy, IsPromisedBy, OfCheckpoint, OfProof}
use Rattle.sig_verify.specs.Links.{Inputs, OfChecked, OfLogged, Outside}
use Rattle.sig_verify.specs.TrustChain.{TrustChain}
use Rattle.sig_verify.specs.Verdict.{Checker, HasBody}
use Rattle.sig_x509.specs.Pool.{pool_over}

-- the first trust anchor that issued the certificate itself, at the first second of its validity, and of it this holds
pub record OfAnchor (accepts : Accepts) (anchors : List Cert) (c : Cert) (P : Cert → Type 0) : Type 0 where
  pub index : ℕ
  pub first : IsFirstIssuer accepts c c.not_before anchors index
  pub holds : P first.anchor

-- some trust anchor issued the certificate itself
abbrev pub HasAnchor : Checker → Trust → Checked → Type 0
HasAnchor k trust c = OfAnchor k.cert trust.anchors c.certificate (λ anchor. Unit {0})

-- the log of its one SCT signed it as issued by the first such trust anchor
abbrev pub IsVouchedUnderAnchor : Checker → Trust → Checked → Type 0
IsVouchedUnderAnchor k trust c = OfSct c.certificate (λ s. OfAnchor k.cert trust.anchors c.certificate (λ anchor.
    (point : List ℕ) × (trust.points s.log_id ≡ Some point)
    × (k.point point (signed_bytes (signed_of c.certificate anchor.spki s)) s.signature ≡ true)))

-- *Trust chain* with the certificate issued by a trust anchor itself
pub record DirectChain (o : Outside) (i : Inputs) : Type 0 where
  pub issuer : OfChecked i (λ trust c. HasAnchor o.checker trust c)
  pub sct : OfChecked i (λ trust c. IsVouchedUnderAnchor o.checker trust c)
  pub policy : OfChecked i (λ trust c. o.policy.holds c.certificate ≡ true)
  pub signature : OfChecked i (λ trust c. IsSignedContent o.checker i.digest c)
      × OfChecked i (λ trust c. IsAbout c.content i.digest)
  pub body : OfChecked i (λ trust c. HasBody c i.digest true)
  pub time : OfChecked i (λ trust c. IsTimely c)
  pub promise : OfLogged i (λ keys e. IsPromisedBy o.checker.spki keys e)
  pub note_key : OfLogged i (λ keys e. IsNoteSignedBy o.checker.spki keys e)
  pub note_match : OfLogged i (λ keys e. OfCheckpoint e IsNoteOf)
  pub inclusion : OfLogged i (λ keys e. OfProof e (IsLed e))

pub record LongerChainsStayValid : Type 0 where
  -- whatever further certificates the bundle has, the chain of trust holds
  pub chain : (o : Outside) (i : Inputs) → DirectChain o i → TrustChain o i
  -- its issuer is the trust anchor
  pub same : (accepts : Accepts) (anchors further : List Cert) (c : Cert) (index : ℕ)
      → IsFirstIssuer accepts c c.not_before anchors index
      → IsFirstInPath accepts (pool_over anchors further) c c.not_before (Anchor index)
  -- without further certificates there is no other issuer
  pub alone : (k : Checker) (trust : Trust) (c : Checked) → c.further ≡ []
      → (HasIssuer k trust c ↔ HasAnchor k trust c) × (IsVouchedFor k trust c ↔ IsVouchedUnderAnchor k trust c)
