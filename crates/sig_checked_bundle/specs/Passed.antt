-- *Passed bundle*: what a bundle that passes its own checks holds (Sigstore bundle format; DSSE protocol; in-toto
-- attestation framework; RFC 5280).
use Rattle.std.specs.Prelude.{◌≡◌, ◌⊎◌, ◌≤◌, ℕ, List, [], ◌∷◌, length, Option, Some, None}
use Rattle.std.specs.List.{AllByRecursion}
use Rattle.sig_dsse.specs.EnvelopeText.{envelope_text}
use Rattle.sig_dsse.specs.NamedDigest.{AreTaken}
use Rattle.sig_dsse.specs.Pae.{pae}
use Rattle.sig_dsse.specs.Statement.{Statement, statement_of}
use Rattle.sig_dsse.specs.declared.artifact_digest.ArtifactDigest.{ArtifactDigest}
use Rattle.sig_dsse.specs.declared.envelope.DsseEnvelope.{DsseEnvelope}
use Rattle.sig_dsse.specs.declared.envelope.DsseSignature.{DsseSignature}
use Rattle.sig_certificate.specs.Certificate.{Cert}
use Rattle.sig_certificate.specs.Certificates.{AreCertificates}
use Rattle.sig_certificate.specs.Profile.{leaf_refusal}
use Rattle.sig_checked_bundle.specs.Checked.{Checked}
use Rattle.sig_checked_bundle.specs.SigningCertificate.{IsNoRoot, encodings_in}
use Rattle.sig_checked_bundle.specs.Version.{IsMediaType}
use Rattle.sig_bundle.specs.declared.bundle.Bundle.{Bundle}
use Rattle.sig_bundle.specs.declared.bundle.Content.{Content}
use Rattle.sig_bundle.specs.declared.bundle.Content.TheVariants.{MessageSignature as Message, DsseEnvelope as Envelope}
use Rattle.sig_bundle.specs.declared.bundle.MessageSignature.{MessageSignature}
use Rattle.sig_checked_bundle.specs.declared.content_check.CheckedContent.{CheckedContent}
use Rattle.sig_checked_bundle.specs.declared.content_check.CheckedContent.TheVariants.{
  MessageSignature as CheckedMessage,
}
use Rattle.sig_checked_bundle.specs.declared.content_check.CheckedContent.TheVariants.{Dsse}
use Rattle.sig_bundle.specs.declared.material.MaterialContent.{MaterialContent}
use Rattle.sig_bundle.specs.declared.material.ProofFields.{ProofFields}
use Rattle.sig_bundle.specs.declared.material.TransparencyLogEntry.{TransparencyLogEntry}
use Rattle.sig_bundle.specs.declared.material.VerificationMaterial.{VerificationMaterial}
use Rattle.sig_checked_bundle.specs.declared.version.Version.{Version}
use Rattle.sig_checked_bundle.specs.declared.version.Version.TheVariants.{Bundle0_1, Bundle0_2, Bundle0_3}

-- the material holds at most 17 certificates: the first, which may sign, and the further ones, none of which is a root
pub record HoldsLeaf (content : Option MaterialContent) (certificate : Cert) (further : List Cert) : Type 0 where
  pub encodings : List (List ℕ)
  pub held : encodings_in content ≡ Some encodings
  pub few : length encodings ≤ 17
  pub read : AreCertificates encodings (certificate ∷ further)
  pub may_sign : leaf_refusal certificate ≡ None
  pub rootless : AllByRecursion IsNoRoot further

-- a signature over an artifact, of which the bundle holds nothing more that the signature has to be over
pub record IsMessageOf (content : Option Content) (bytes : List ℕ) (kept : CheckedContent) : Type 0 where
  pub message : MessageSignature
  pub held : content ≡ Some (Message message)
  pub same : message.signature ≡ bytes
  pub over : kept ≡ CheckedMessage

-- an envelope has only this signature, its payload is a statement whose digests are taken, and all that the signature
-- has to be over is kept
pub record IsEnvelopeOf (content : Option Content) (bytes : List ℕ) (kept : CheckedContent) : Type 0 where
  pub envelope : DsseEnvelope
  pub held : content ≡ Some (Envelope envelope)
  pub signature : DsseSignature
  pub only : envelope.signatures ≡ signature ∷ []
  pub same : signature.sig ≡ bytes
  pub statement : Statement
  pub stated : statement_of envelope.payload ≡ Some statement
  pub digests : List ArtifactDigest
  pub named : AreTaken statement digests
  pub over : kept ≡ Dsse (pae envelope.payload_type envelope.payload) digests (envelope_text envelope) envelope.payload

abbrev pub IsContentOf : Option Content → List ℕ → CheckedContent → Type 0
IsContentOf content bytes kept = IsMessageOf content bytes kept ⊎ IsEnvelopeOf content bytes kept

-- the log entry has the log's promise to include it
pub record HasPromise (entry : TransparencyLogEntry) : Type 0 where
  pub promise : List ℕ
  pub promised : entry.inclusion_promise ≡ Some promise

-- the log entry has an inclusion proof, and the proof the text of a checkpoint; this does not say that either proves
-- anything
pub record HasProof (entry : TransparencyLogEntry) : Type 0 where
  pub proof : ProofFields
  pub included : entry.inclusion_proof ≡ Some proof
  pub text : List ℕ
  pub checkpoint : proof.checkpoint ≡ Some text

-- what a version requires of the log entry
abbrev pub IsMet : Version → TransparencyLogEntry → Type 0
IsMet Bundle0_1 entry = HasPromise entry
IsMet Bundle0_2 entry = HasProof entry
IsMet Bundle0_3 entry = HasProof entry

-- the bundle has all that its version requires of a signature with certificates and a log entry
pub record IsPassed (bundle : Bundle) (c : Checked) : Type 0 where
  pub material : VerificationMaterial
  pub brought : bundle.verification_material ≡ Some material
  pub certificate : HoldsLeaf material.content c.certificate c.further
  pub content : IsContentOf bundle.content c.signature c.content
  pub logged : material.tlog_entries ≡ c.entry ∷ []
  pub version : Version
  pub named : IsMediaType bundle.media_type version
  pub met : IsMet version c.entry
