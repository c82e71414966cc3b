-- *Causes of the refusals*: each error of a bundle's own checks in the words of the bundle: the rules before it
-- hold, and this one does not.
use Rattle.std.specs.Prelude.{⊤, ◌≡◌, ◌≢◌, ◌≤◌, ◌<◌, ◌↔◌, ℕ, List, [], ◌∷◌, length, Any, Some, None, Err}
use Rattle.std.specs.List.{AllByRecursion}
use Rattle.sig_certificate.specs.Certificate.{Cert}
use Rattle.sig_certificate.specs.Certificates.{AreCertificates}
use Rattle.sig_certificate.specs.Profile.{leaf_refusal}
use Rattle.sig_dsse.specs.Faults.{IsCauseOf}
use Rattle.sig_dsse.specs.Statement.{Statement, statement_of}
use Rattle.sig_dsse.specs.declared.envelope.DsseEnvelope.{DsseEnvelope}
use Rattle.sig_dsse.specs.declared.envelope.DsseSignature.{DsseSignature}
use Rattle.sig_dsse.specs.declared.recognized.SubjectFault.TheVariants as fault
use Rattle.sig_checked_bundle.specs.Checked.{IsChecked}
use Rattle.sig_checked_bundle.specs.Passed.{IsContentOf}
use Rattle.sig_checked_bundle.specs.SigningCertificate.{IsFirstMalformed, IsNoRoot, IsRoot, encodings_in}
use Rattle.sig_checked_bundle.specs.Version.{IsMediaType}
use Rattle.sig_bundle.specs.declared.bundle.Bundle.{Bundle}
use Rattle.sig_bundle.specs.declared.bundle.Content.TheVariants.{DsseEnvelope as Envelope}
use Rattle.sig_checked_bundle.specs.declared.bundle_error.BundleErrorKind.{BundleErrorKind}
use Rattle.sig_checked_bundle.specs.declared.bundle_error.BundleErrorKind.TheVariants as refusal
use Rattle.sig_checked_bundle.specs.declared.bundle_error.BundleProfileErrorKind.{BundleProfileErrorKind}
use Rattle.sig_checked_bundle.specs.declared.bundle_error.BundleProfileErrorKind.TheVariants.{Bundle01Profile}
use Rattle.sig_checked_bundle.specs.declared.bundle_error.BundleProfileErrorKind.TheVariants.{Bundle02Profile, Unknown}
use Rattle.sig_checked_bundle.specs.declared.bundle_error.Bundle01ProfileErrorKind.TheVariants.{InclusionPromiseMissing}
use Rattle.sig_checked_bundle.specs.declared.bundle_error.Bundle02ProfileErrorKind.TheVariants.{InclusionProofMissing}
use Rattle.sig_checked_bundle.specs.declared.bundle_error.Bundle02ProfileErrorKind.TheVariants.{CheckpointMissing}
use Rattle.sig_checked_bundle.specs.declared.content_check.CheckedContent.{CheckedContent}
use Rattle.sig_bundle.specs.declared.material.ProofFields.{ProofFields}
use Rattle.sig_bundle.specs.declared.material.TransparencyLogEntry.{TransparencyLogEntry}
use Rattle.sig_bundle.specs.declared.material.VerificationMaterial.{VerificationMaterial}
use Rattle.sig_checked_bundle.specs.declared.version.Version.{Version}
use Rattle.sig_checked_bundle.specs.declared.version.Version.TheVariants.{Bundle0_1, Bundle0_2, Bundle0_3}

-- ---- the rules in their order, each with all before it

-- there is material
pub record HasMaterial (b : Bundle) : Type 0 where
  pub material : VerificationMaterial
  pub brought : b.verification_material ≡ Some material

-- it holds a certificate or a chain, as encodings (DER)
pub record HasEncodings (b : Bundle) : Type 0 where
  pub before : HasMaterial b
  pub encodings : List (List ℕ)
  pub held : encodings_in before.material.content ≡ Some encodings

-- there are at most 17 of them
pub record HasFewEncodings (b : Bundle) : Type 0 where
  pub before : HasEncodings b
  pub few : length before.encodings ≤ 17

-- each is that of a certificate (RFC 5280 section 4.1), and there is one
pub record HasCertificates (b : Bundle) : Type 0 where
  pub before : HasFewEncodings b
  pub certificate : Cert
  pub further : List Cert
  pub read : AreCertificates before.before.encodings (certificate ∷ further)

-- the first may sign
pub record HasLeaf (b : Bundle) : Type 0 where
  pub before : HasCertificates b
  pub may_sign : leaf_refusal before.certificate ≡ None

-- no further certificate is a root
pub record HasNoRoot (b : Bundle) : Type 0 where
  pub before : HasLeaf b
  pub rootless : AllByRecursion IsNoRoot before.before.further

-- the content is an envelope
pub record HasEnvelope (b : Bundle) : Type 0 where
  pub before : HasNoRoot b
  pub envelope : DsseEnvelope
  pub held : b.content ≡ Some (Envelope envelope)

-- the envelope has one signature
pub record HasSignature (b : Bundle) : Type 0 where
  pub before : HasEnvelope b
  pub signature : DsseSignature
  pub only : before.envelope.signatures ≡ signature ∷ []

-- its payload is a statement
pub record HasStatement (b : Bundle) : Type 0 where
  pub before : HasSignature b
  pub statement : Statement
  pub stated : statement_of before.before.envelope.payload ≡ Some statement

-- the content is a signature over an artifact, or an envelope that keeps all rules
pub record HasContent (b : Bundle) : Type 0 where
  pub before : HasNoRoot b
  pub signature : List ℕ
  pub kept : CheckedContent
  pub read : IsContentOf b.content signature kept

-- the material of a bundle whose rules hold so far
abbrev pub material_under : {b : Bundle} → HasContent b → VerificationMaterial
material_under h = h.before.before.before.before.before.before.material

-- there is one log entry
pub record HasEntry (b : Bundle) : Type 0 where
  pub before : HasContent b
  pub entry : TransparencyLogEntry
  pub only : (material_under before).tlog_entries ≡ entry ∷ []

-- the media type is that of a version
pub record HasVersion (b : Bundle) : Type 0 where
  pub before : HasEntry b
  pub version : Version
  pub named : IsMediaType b.media_type version

-- ---- each error, by the first rule that does not hold

-- the version requires an inclusion proof with a checkpoint
abbrev pub DemandsProof : Version → Type 0
DemandsProof Bundle0_1 = ⊥
DemandsProof Bundle0_2 = ⊤
DemandsProof Bundle0_3 = ⊤

abbrev pub IsProfileCauseOf : BundleProfileErrorKind → Bundle → Type 0
IsProfileCauseOf (Unknown text) b =
    HasEntry b × (text ≡ b.media_type) × ((version : Version) → ¬ IsMediaType b.media_type version)
IsProfileCauseOf (Bundle01Profile InclusionPromiseMissing) b =
    (h : HasVersion b) × (h.version ≡ Bundle0_1) × (h.before.entry.inclusion_promise ≡ None)
IsProfileCauseOf (Bundle02Profile InclusionProofMissing) b =
    (h : HasVersion b) × DemandsProof h.version × (h.before.entry.inclusion_proof ≡ None)
IsProfileCauseOf (Bundle02Profile CheckpointMissing) b =
    (h : HasVersion b) × DemandsProof h.version × (proof : ProofFields) ×
    (h.before.entry.inclusion_proof ≡ Some proof) × (proof.checkpoint ≡ None)

abbrev pub IsCause : BundleErrorKind → Bundle → Type 0
IsCause refusal.VerificationMaterialMissing b = b.verification_material ≡ None
IsCause refusal.VerificationMaterialContentUnsupported b =
    (h : HasMaterial b) × (encodings_in h.material.content ≡ None)
IsCause (refusal.TooManyCertificates count) b =
    (h : HasEncodings b) × (length h.encodings ≡ count) × (17 < count)
IsCause (refusal.CertificateMalformed index) b =
    (h : HasFewEncodings b) × IsFirstMalformed h.before.encodings index
IsCause refusal.CertificatesMissing b = (h : HasFewEncodings b) × (h.before.encodings ≡ [])
IsCause (refusal.NoLeaf e) b = (h : HasCertificates b) × (leaf_refusal h.certificate ≡ Some e)
IsCause refusal.RootInChain b = (h : HasLeaf b) × Any IsRoot h.before.further
IsCause refusal.SignatureMissing b = HasNoRoot b × (b.content ≡ None)
IsCause (refusal.DsseInvalidSignatureCount count) b =
    (h : HasEnvelope b) × (length h.envelope.signatures ≡ count) × (count ≢ 1)
IsCause refusal.DssePayloadDecode b = (h : HasSignature b) × (statement_of h.before.envelope.payload ≡ None)
IsCause (refusal.DsseTooManySubjects count) b =
    (h : HasStatement b) × IsCauseOf (fault.TooManySubjects count) h.statement
IsCause (refusal.DsseTooManySubjectDigests count) b =
    (h : HasStatement b) × IsCauseOf (fault.TooManyDigests count) h.statement
IsCause (refusal.DsseSubjectDigestMalformed name) b =
    (h : HasStatement b) × IsCauseOf (fault.Malformed name) h.statement
IsCause refusal.DsseNoRecognizedSubjectDigest b = (h : HasStatement b) × IsCauseOf fault.NoneRecognized h.statement
IsCause (refusal.TlogEntry count) b =
    (h : HasContent b) × (length (material_under h).tlog_entries ≡ count) × (count ≢ 1)
IsCause (refusal.BundleProfile kind) b = IsProfileCauseOf kind b
IsCause refusal.OutOfMemory b = ⊥

-- each error comes if and only if it has its cause
abbrev pub RefusalsHaveTheirCause : Type 0
RefusalsHaveTheirCause = (bundle : Bundle) (kind : BundleErrorKind) → IsChecked bundle (Err kind) ↔ IsCause kind bundle
