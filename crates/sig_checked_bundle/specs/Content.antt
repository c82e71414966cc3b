-- The content of a bundle, as far as the bundle alone can tell (Sigstore bundle format; DSSE protocol; in-toto
-- attestation framework).
use Rattle.std.specs.Prelude.{ℕ, List, [], ◌∷◌, length, Option, Some, None, Result, Ok, Err}
use Rattle.sig_base.specs.ResultSteps.{◌>>=◌}
use Rattle.sig_dsse.specs.EnvelopeText.{envelope_text}
use Rattle.sig_dsse.specs.Pae.{pae}
use Rattle.sig_dsse.specs.Recognized.{digests_or_fault}
use Rattle.sig_dsse.specs.Statement.{Statement, statement_of}
use Rattle.sig_dsse.specs.declared.artifact_digest.ArtifactDigest.{ArtifactDigest}
use Rattle.sig_dsse.specs.declared.envelope.DsseEnvelope.{DsseEnvelope}
use Rattle.sig_dsse.specs.declared.envelope.DsseSignature.{DsseSignature}
use Rattle.sig_dsse.specs.declared.recognized.SubjectFault.{SubjectFault}
use Rattle.sig_dsse.specs.declared.recognized.SubjectFault.TheVariants as fault
use Rattle.sig_bundle.specs.declared.bundle.Content.{Content}
use Rattle.sig_bundle.specs.declared.bundle.Content.TheVariants.{MessageSignature as Message, DsseEnvelope as Envelope}
use Rattle.sig_bundle.specs.declared.bundle.MessageSignature.{MessageSignature}
use Rattle.sig_checked_bundle.specs.declared.bundle_error.BundleErrorKind.{BundleErrorKind}
use Rattle.sig_checked_bundle.specs.declared.bundle_error.BundleErrorKind.TheVariants.{SignatureMissing}
use Rattle.sig_checked_bundle.specs.declared.bundle_error.BundleErrorKind.TheVariants.{DsseInvalidSignatureCount}
use Rattle.sig_checked_bundle.specs.declared.bundle_error.BundleErrorKind.TheVariants.{DssePayloadDecode}
use Rattle.sig_checked_bundle.specs.declared.bundle_error.BundleErrorKind.TheVariants.{DsseTooManySubjects}
use Rattle.sig_checked_bundle.specs.declared.bundle_error.BundleErrorKind.TheVariants.{DsseTooManySubjectDigests}
use Rattle.sig_checked_bundle.specs.declared.bundle_error.BundleErrorKind.TheVariants.{DsseSubjectDigestMalformed}
use Rattle.sig_checked_bundle.specs.declared.bundle_error.BundleErrorKind.TheVariants.{DsseNoRecognizedSubjectDigest}
use Rattle.sig_checked_bundle.specs.declared.bundle_error.BundleErrorKind.TheVariants.{OutOfMemory}
use Rattle.sig_checked_bundle.specs.declared.content_check.CheckedContent.{CheckedContent}
use Rattle.sig_checked_bundle.specs.declared.content_check.CheckedContent.TheVariants.{
  MessageSignature as CheckedMessage,
}
use Rattle.sig_checked_bundle.specs.declared.content_check.CheckedContent.TheVariants.{Dsse}

-- the one signature of an envelope
abbrev pub signature_among : List DsseSignature → Result DsseSignature BundleErrorKind
signature_among [] = Err (DsseInvalidSignatureCount 0)
signature_among (signature ∷ []) = Ok signature
signature_among (signature ∷ other ∷ others) = Err (DsseInvalidSignatureCount (length (signature ∷ other ∷ others)))

abbrev pub statement_or_refusal : Option Statement → Result Statement BundleErrorKind
statement_or_refusal None = Err DssePayloadDecode
statement_or_refusal (Some statement) = Ok statement

-- the error of a bundle for what is wrong with its subjects
abbrev pub subject_refusal : SubjectFault → BundleErrorKind
subject_refusal (fault.TooManySubjects count) = DsseTooManySubjects count
subject_refusal (fault.TooManyDigests count) = DsseTooManySubjectDigests count
subject_refusal (fault.Malformed name) = DsseSubjectDigestMalformed name
subject_refusal fault.NoneRecognized = DsseNoRecognizedSubjectDigest
subject_refusal fault.OutOfMemory = OutOfMemory

abbrev pub under_bundle_names : Result (List ArtifactDigest) SubjectFault
    → Result (List ArtifactDigest) BundleErrorKind
under_bundle_names (Ok digests) = Ok digests
under_bundle_names (Err fault) = Err (subject_refusal fault)

-- the digests that the payload's subjects have
abbrev pub digests_in : List ℕ → Result (List ArtifactDigest) BundleErrorKind
digests_in payload = do
  statement ← statement_or_refusal (statement_of payload)
  under_bundle_names (digests_or_fault statement)

-- a signature, and what it has to be over: it is not checked that it is
pub record ContentWithSignature : Type 0 where
  pub signature : List ℕ
  pub content : CheckedContent

-- the content of an envelope: its one signature, which has to be over the encoding of its type and payload, which is a
-- statement about artifacts
abbrev pub envelope_content : DsseEnvelope → Result ContentWithSignature BundleErrorKind
envelope_content envelope = do
  signature ← signature_among envelope.signatures
  digests ← digests_in envelope.payload
  Ok (record {
    signature = signature.sig;
    content = Dsse (pae envelope.payload_type envelope.payload) digests (envelope_text envelope) envelope.payload;
  })

-- a signature over an artifact is over nothing that the bundle holds: it has to be over the artifact's digest
abbrev pub message_content : MessageSignature → ContentWithSignature
message_content message = record { signature = message.signature; content = CheckedMessage }

abbrev pub content_with_signature : Option Content → Result ContentWithSignature BundleErrorKind
content_with_signature None = Err SignatureMissing
content_with_signature (Some (Message message)) = Ok (message_content message)
content_with_signature (Some (Envelope envelope)) = envelope_content envelope
