-- The links `material` to `profile`, each in its own words: what a bundle needs to pass its own checks (Sigstore
-- bundle format; RFC 5280 section 4.1; DSSE protocol; in-toto attestation framework).
use Rattle.std.specs.Prelude.{◌≡◌, ◌≤◌, ℕ, List, [], ◌∷◌, length, Some, None}
use Rattle.std.specs.List.{AllByRecursion}
use Rattle.sig_checked_bundle.specs.Passed.{IsMet}
use Rattle.sig_checked_bundle.specs.SigningCertificate.{IsNoRoot, encodings_in}
use Rattle.sig_checked_bundle.specs.Version.{IsMediaType}
use Rattle.sig_bundle.specs.declared.bundle.Bundle.{Bundle}
use Rattle.sig_bundle.specs.declared.bundle.Content.{Content as ContentType}
use Rattle.sig_bundle.specs.declared.bundle.Content.TheVariants.{MessageSignature as Message, DsseEnvelope as Enveloped}
use Rattle.sig_bundle.specs.declared.material.TransparencyLogEntry.{TransparencyLogEntry}
use Rattle.sig_bundle.specs.declared.material.VerificationMaterial.{VerificationMaterial}
use Rattle.sig_checked_bundle.specs.declared.version.Version.{Version}
use Rattle.sig_certificate.specs.Certificate.{Cert}
use Rattle.sig_certificate.specs.Certificates.{AreCertificates}
use Rattle.sig_certificate.specs.Profile.{leaf_refusal}
use Rattle.sig_dsse.specs.NamedDigest.{AreTaken}
use Rattle.sig_dsse.specs.Statement.{Statement, statement_of}
use Rattle.sig_dsse.specs.declared.artifact_digest.ArtifactDigest.{ArtifactDigest}
use Rattle.sig_dsse.specs.declared.envelope.DsseEnvelope.{DsseEnvelope}
use Rattle.sig_dsse.specs.declared.envelope.DsseSignature.{DsseSignature}
use Rattle.sig_verify.specs.declared.link.Link.{Link}
use Rattle.sig_verify.specs.declared.link.Link.TheVariants.{Material, Certificate, Leaf, RootInChain, Content, Envelope}
use Rattle.sig_verify.specs.declared.link.Link.TheVariants.{Entry, Profile}

-- ---- the parts that a link may be about

-- there is material, and this holds of it
abbrev pub OfMaterial : Bundle → (VerificationMaterial → Type 0) → Type 0
OfMaterial b P = (material : VerificationMaterial) × (b.verification_material ≡ Some material) × P material

-- it holds a certificate or a chain, as encodings (DER), and this holds of them
abbrev pub OfEncodings : Bundle → (List (List ℕ) → Type 0) → Type 0
OfEncodings b P =
    OfMaterial b (λ material. (ders : List (List ℕ)) × (encodings_in material.content ≡ Some ders) × P ders)

-- each is that of a certificate, and there is a first one; this holds of it and of the further ones
abbrev pub OfCertificates : Bundle → (Cert → List Cert → Type 0) → Type 0
OfCertificates b P =
    OfEncodings b (λ ders. (c : Cert) × (further : List Cert) × AreCertificates ders (c ∷ further) × P c further)

-- there is content, and this holds of it
abbrev pub OfContent : Bundle → (ContentType → Type 0) → Type 0
OfContent b P = (content : ContentType) × (b.content ≡ Some content) × P content

-- there is one log entry, and this holds of it
abbrev pub OfEntry : Bundle → (TransparencyLogEntry → Type 0) → Type 0
OfEntry b P = OfMaterial b (λ material. (e : TransparencyLogEntry) × (material.tlog_entries ≡ e ∷ []) × P e)

-- the media type is that of a version, and this holds of the version
abbrev pub OfVersion : Bundle → (Version → Type 0) → Type 0
OfVersion b P = (version : Version) × IsMediaType b.media_type version × P version

-- ---- what a link asks

-- a bundle has at most 16 further certificates
abbrev pub AreFew : List Cert → Type 0
AreFew further = length further ≤ 16

-- the envelope has one signature, its payload is a statement, and the statement's subjects have digests that are known
pub record IsEnvelopeRead (envelope : DsseEnvelope) : Type 0 where
  pub signature : DsseSignature
  pub only : envelope.signatures ≡ signature ∷ []
  pub statement : Statement
  pub stated : statement_of envelope.payload ≡ Some statement
  pub digests : List ArtifactDigest
  pub taken : AreTaken statement digests

-- a signature over an artifact needs nothing more
abbrev pub IsContentRead : ContentType → Type 0
IsContentRead (Message message) = Unit {0}
IsContentRead (Enveloped envelope) = IsEnvelopeRead envelope

-- ---- the links

abbrev pub bundle_links : List Link
bundle_links = Material ∷ Certificate ∷ Leaf ∷ RootInChain ∷ Content ∷ Envelope ∷ Entry ∷ Profile ∷ []

-- what a link requires of a bundle, if all links before it hold
abbrev pub HoldsOfBundle : Bundle → Link → Type 0
HoldsOfBundle b Material = OfEncodings b (λ ders. Unit {0})
HoldsOfBundle b Certificate = OfCertificates b (λ c further. AreFew further)
HoldsOfBundle b Leaf = OfCertificates b (λ c further. leaf_refusal c ≡ None)
HoldsOfBundle b RootInChain = OfCertificates b (λ c further. AllByRecursion IsNoRoot further)
HoldsOfBundle b Content = OfContent b (λ content. Unit {0})
HoldsOfBundle b Envelope = OfContent b IsContentRead
HoldsOfBundle b Entry = OfEntry b (λ e. Unit {0})
HoldsOfBundle b Profile = OfVersion b (λ version. OfEntry b (IsMet version))
HoldsOfBundle b other = Unit {0}
