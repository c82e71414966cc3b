-- The links `issuance` to `time`, each in its own words: what the certificate, the signature, the content and the log
-- entry of a bundle that passed its own checks need (RFC 5280; RFC 6962 sections 3.2 and 3.3; DSSE protocol).
use Rattle.std.specs.Prelude.{◌≡◌, ℕ, ◌≤ℤ◌, Bool, true, List, [], ◌∷◌, Contains, Option, Some}
use Rattle.sig_base.specs.declared.scheme.VerifyScheme.{VerifyScheme}
use Rattle.sig_checked_bundle.specs.Checked.{Checked}
use Rattle.sig_checked_bundle.specs.declared.content_check.CheckedContent.{CheckedContent}
use Rattle.sig_checked_bundle.specs.declared.content_check.CheckedContent.TheVariants.{MessageSignature, Dsse}
use Rattle.sig_certificate.specs.Certificate.{Cert}
use Rattle.sig_dsse.specs.declared.artifact_digest.ArtifactDigest.{ArtifactDigest}
use Rattle.sig_dsse.specs.declared.artifact_digest.ArtifactDigest.TheVariants.{Sha256, Sha512}
use Rattle.sig_key.specs.Kind.{IsKind}
use Rattle.sig_key.specs.declared.kind.KeyKind.TheVariants.{Scheme}
use Rattle.sig_timestamp.specs.SctBytes.{signed_bytes, signed_of}
use Rattle.sig_timestamp.specs.SctList.{Sct as SctType}
use Rattle.sig_timestamp.specs.Precert.{precertificate}
use Rattle.sig_timestamp.specs.Timestamps.{HasSct}
use Rattle.sig_timestamp.specs.Vectors.{IsShort, IsLong}
use Rattle.sig_x509.specs.Issuance.{Accepts}
use Rattle.sig_x509.specs.Issued.{HasProfile}
use Rattle.sig_x509.specs.Path.{IsFirstInPath}
use Rattle.sig_x509.specs.Pool.{Pool, pool_over}
use Rattle.sig_x509.specs.declared.issuer.Issuer.{Issuer as IssuerType}
use Rattle.sig_verify.specs.ContentCheck.{AcceptsUnder}
use Rattle.sig_verify.specs.Verdict.{Checker, HasBody, PolicyOf}
use Rattle.sig_verify.specs.declared.link.Link.{Link}
use Rattle.sig_verify.specs.declared.link.Link.TheVariants.{Issuance, Issuer, Sct, Policy, Key, Signature, Subject}
use Rattle.sig_verify.specs.declared.link.Link.TheVariants.{Body, Time}

-- the trust anchors, and the point of the Certificate Transparency log of each log id
pub record Trust : Type 0 where
  pub anchors : List Cert
  pub points : List ℕ → Option (List ℕ)

-- ---- the parts that a link may be about

-- A certification path leads from the certificate to a trust anchor, at the first second of its validity. The first
-- issuer in one, the trust anchors in order and then the intermediates, is a certificate, and this holds of it.
pub record OfIssuer (accepts : Accepts) (pool : Pool) (c : Cert) (P : Cert → Type 0) : Type 0 where
  pub issuer : IssuerType
  pub first : IsFirstInPath accepts pool c c.not_before issuer
  pub holds : P first.path.certificate

-- the certificate has one SCT, and this holds of it
abbrev pub OfSct : Cert → (SctType → Type 0) → Type 0
OfSct c P = (s : SctType) × HasSct c s × P s

-- the certificate's key is of a scheme, and this holds of the scheme
abbrev pub OfScheme : Cert → (VerifyScheme → Type 0) → Type 0
OfScheme c P = (scheme : VerifyScheme) × IsKind c.spki (Scheme scheme) × P scheme

-- ---- what a link asks

-- a certification path leads from the certificate over the further ones of its bundle to a trust anchor
abbrev pub HasIssuer : Checker → Trust → Checked → Type 0
HasIssuer k trust c = OfIssuer k.cert (pool_over trust.anchors c.further) c.certificate (λ x. Unit {0})

-- the one SCT, and what it signs has bytes: TBSCertificate<1..2^24-1>, CtExtensions<0..2^16-1>
abbrev pub HasSignedBytes : Cert → Type 0
HasSignedBytes c = OfSct c (λ s. IsLong (precertificate c) × IsShort s.extensions)

-- the log of the SCT has a point, under which the SCT's signature is over the certificate as issued under the key of
-- the first issuer in such a path
abbrev pub IsVouchedFor : Checker → Trust → Checked → Type 0
IsVouchedFor k trust c = OfSct c.certificate (λ s.
    OfIssuer k.cert (pool_over trust.anchors c.further) c.certificate (λ x.
    (point : List ℕ) × (trust.points s.log_id ≡ Some point)
    × (k.point point (signed_bytes (signed_of c.certificate x.spki s)) s.signature ≡ true)))

-- *Sig*: over the encoding of an envelope, or over the SHA-256 digest of the artifact
abbrev pub IsContentSignedUnder : AcceptsUnder → AcceptsUnder → ArtifactDigest → CheckedContent → List ℕ → Type 0
IsContentSignedUnder message prehash d (Dsse pae digests envelope payload) signature = message pae signature ≡ true
IsContentSignedUnder message prehash (Sha256 bytes) MessageSignature signature = prehash bytes signature ≡ true
IsContentSignedUnder message prehash (Sha512 bytes) MessageSignature signature = ⊥

abbrev pub IsSignedContent : Checker → ArtifactDigest → Checked → Type 0
IsSignedContent k d c = OfScheme c.certificate (λ scheme.
    IsContentSignedUnder (k.spki scheme c.certificate.spki)
    (k.prehash scheme c.certificate.spki) d c.content c.signature)

-- *Subject*: a signature over the artifact is about it; a statement is if its subjects have the digest
abbrev pub IsAbout : CheckedContent → ArtifactDigest → Type 0
IsAbout MessageSignature d = Unit {0}
IsAbout (Dsse pae digests envelope payload) d = Contains digests d

-- the log took the entry while the certificate was valid, both ends included
abbrev pub IsTimely : Checked → Type 0
IsTimely c =
    (c.certificate.not_before ≤ℤ c.entry.integrated_time) × (c.entry.integrated_time ≤ℤ c.certificate.not_after)

-- ---- the links

abbrev pub certificate_links : List Link
certificate_links = Issuance ∷ Issuer ∷ Sct ∷ Policy ∷ Key ∷ Signature ∷ Subject ∷ Body ∷ Time ∷ []

-- what a link requires of a checked bundle, if all links before it hold
abbrev pub HoldsOfChecked : Checker → PolicyOf → Trust → ArtifactDigest → Bool → Checked → Link → Type 0
HoldsOfChecked k policy trust d offline c Issuance = HasProfile c.certificate
HoldsOfChecked k policy trust d offline c Issuer = HasIssuer k trust c
HoldsOfChecked k policy trust d offline c Sct = HasSignedBytes c.certificate × IsVouchedFor k trust c
HoldsOfChecked k policy trust d offline c Policy = policy.holds c.certificate ≡ true
HoldsOfChecked k policy trust d offline c Key = OfScheme c.certificate (λ scheme. Unit {0})
HoldsOfChecked k policy trust d offline c Signature = IsSignedContent k d c
HoldsOfChecked k policy trust d offline c Subject = IsAbout c.content d
HoldsOfChecked k policy trust d offline c Body = HasBody c d offline
HoldsOfChecked k policy trust d offline c Time = IsTimely c
HoldsOfChecked k policy trust d offline c other = Unit {0}
