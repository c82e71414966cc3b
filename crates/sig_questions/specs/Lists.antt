-- The questions in their order: those of each group, one after the other.
use Rattle.std.specs.Prelude.{ℕ, ◌-◌, ◌^◌, Bool, true, false, nat_lt, map, if◌then◌else◌, List, [], ◌∷◌, ◌++◌, length}
use Rattle.std.specs.Prelude.{flat_map, Option, Some, None, Result, Ok, Err}
use Rattle.hex.specs.Hex.{encode_lower}
use Rattle.sig_base.specs.ByText.{text_lookup}
use Rattle.sig_base.specs.declared.checker.AcceptedRow.{AcceptedRow}
use Rattle.sig_base.specs.declared.fault.CheckpointFault.{CheckpointFault}
use Rattle.sig_base.specs.declared.scheme.VerifyScheme.{VerifyScheme}
use Rattle.sig_checked_bundle.specs.Checked.{Checked}
use Rattle.sig_bundle.specs.Promise.{promise_tree_of}
use Rattle.sig_checked_bundle.specs.declared.content_check.CheckedContent.{CheckedContent}
use Rattle.sig_checked_bundle.specs.declared.content_check.CheckedContent.TheVariants.{MessageSignature, Dsse}
use Rattle.sig_bundle.specs.declared.material.ProofFields.{ProofFields}
use Rattle.sig_bundle.specs.declared.material.TransparencyLogEntry.{TransparencyLogEntry}
use Rattle.sig_certificate.specs.Certificate.{Cert}
use Rattle.sig_dsse.specs.declared.artifact_digest.ArtifactDigest.{ArtifactDigest}
use Rattle.sig_dsse.specs.declared.artifact_digest.ArtifactDigest.TheVariants.{Sha256, Sha512}
use Rattle.sig_json_text.specs.Canonical.{canonical_of}
use Rattle.sig_json_text.specs.declared.error.CanonicalError.{CanonicalError}
use Rattle.sig_key.specs.Kind.{key_kind}
use Rattle.sig_key.specs.declared.kind.KeyKind.{KeyKind}
use Rattle.sig_key.specs.declared.kind.KeyKind.TheVariants.{NoKeyInfo, Unsupported, Scheme}
use Rattle.sig_rekor.specs.CheckpointText.{checkpoint_of}
use Rattle.sig_rekor.specs.NoteText.{note_text}
use Rattle.sig_rekor.specs.declared.checkpoint.CheckpointSignature.{CheckpointSignature}
use Rattle.sig_rekor.specs.declared.checkpoint.SignedCheckpoint.{SignedCheckpoint}
use Rattle.sig_timestamp.specs.Embedded.{ready}
use Rattle.sig_timestamp.specs.SctBytes.{signed_bytes}
use Rattle.sig_timestamp.specs.Timestamps.{sct_of}
use Rattle.sig_timestamp.specs.declared.sct_error.SCTError.{SCTError}
use Rattle.sig_timestamp.specs.declared.signed.DigitallySigned.{DigitallySigned}
use Rattle.sig_verify.specs.CertificateLinks.{Trust}
use Rattle.sig_verify.specs.EntryLinks.{LogKeys}
use Rattle.sig_x509.specs.Pool.{present}
use Rattle.sig_x509.specs.Possible.{SignedOne, SignerOne, anchor_signer, further_signed, further_signer, may_sign}
use Rattle.sig_x509.specs.Possible.{the_leaf}
use Rattle.sig_questions.specs.Asked.{signature_row}
use Rattle.sig_questions.specs.Rows.{message_row, point_row, prehash_row}

-- ---- the signers, and the keys

-- a trust anchor (true), or a further certificate
abbrev pub Side : Type 0
Side = Bool × Cert

-- the trust anchors in order, and then the further certificates
abbrev pub signers : Trust → Checked → List Side
signers trust c = map (λ x. (true, x)) trust.anchors ++ map (λ x. (false, x)) c.further

-- the signature of a further certificate, or of the certificate itself (None), under the key of one of these
abbrev pub Pair : Type 0
Pair = Option Cert × Side

abbrev pub pairs_with : Trust → Checked → Option Cert → List Pair
pairs_with trust c y = map (λ side. (y, side)) (signers trust c)

-- the signature of the certificate itself, then those of the further ones in order
abbrev pub pairs : Trust → Checked → List Pair
pairs trust c = flat_map (pairs_with trust c) (None ∷ present c.further)

-- ---- those that lie on a path

abbrev pub signed_side : Checked → Option Cert → SignedOne
signed_side c None = the_leaf c.certificate c.certificate.not_before
signed_side c (Some y) = further_signed c.further c.certificate c.certificate.not_before y

abbrev pub signer_as : Trust → Checked → Bool → Cert → SignerOne
signer_as trust c true x = anchor_signer x
signer_as trust c false x = further_signer trust.anchors c.further c.certificate.not_before x

abbrev pub signer_side : Trust → Checked → Side → SignerOne
signer_side trust c side = signer_as trust c side.0 side.1

abbrev pub signature_questions : SignedOne → SignerOne → List AcceptedRow
signature_questions y x = if may_sign y x then signature_row y.certificate x.certificate ∷ [] else []

abbrev pub pair_questions : Trust → Checked → Pair → List AcceptedRow
pair_questions trust c pair = signature_questions (signed_side c pair.0) (signer_side trust c pair.1)

abbrev pub certificate_questions : Trust → Checked → List AcceptedRow
certificate_questions trust c = flat_map (pair_questions trust c) (pairs trust c)

-- ---- the SCT under an issuer

abbrev pub pointed_questions : Option (List ℕ) → DigitallySigned → List AcceptedRow
pointed_questions None d = []
pointed_questions (Some point) d = point_row point (signed_bytes d) d.signature ∷ []

abbrev pub signed_questions : (List ℕ → Option (List ℕ)) → DigitallySigned → List AcceptedRow
signed_questions points d =
    if nat_lt (2 ^ 24 - 1) (length d.tbs_certificate) then []
    else if nat_lt (2 ^ 16 - 1) (length d.extensions) then []
    else pointed_questions (points d.log_id) d

abbrev pub embedded_questions : (List ℕ → Option (List ℕ)) → Result DigitallySigned SCTError → List AcceptedRow
embedded_questions points (Ok d) = signed_questions points d
embedded_questions points (Err e) = []

abbrev pub sct_questions_under : (List ℕ → Option (List ℕ)) → SignedOne → SignerOne → List AcceptedRow
sct_questions_under points y x =
    if may_sign y x then embedded_questions points (ready y.certificate x.certificate.spki (sct_of y.certificate))
    else []

abbrev pub side_questions : Trust → Checked → Side → List AcceptedRow
side_questions trust c side = sct_questions_under trust.points (signed_side c None) (signer_side trust c side)

abbrev pub sct_questions : Trust → Checked → List AcceptedRow
sct_questions trust c = flat_map (side_questions trust c) (signers trust c)

-- ---- the signature over the content

-- under the scheme of a key, if it has one
abbrev pub if_scheme : KeyKind → (VerifyScheme → List AcceptedRow) → List AcceptedRow
if_scheme (Scheme scheme) rows = rows scheme
if_scheme NoKeyInfo rows = []
if_scheme Unsupported rows = []

abbrev pub content_questions_under
    : VerifyScheme → List ℕ → ArtifactDigest → CheckedContent → List ℕ → List AcceptedRow
content_questions_under scheme spki d (Dsse pae digests envelope payload) signature =
    message_row scheme spki pae signature ∷ []
content_questions_under scheme spki (Sha256 bytes) MessageSignature signature =
    prehash_row scheme spki bytes signature ∷ []
content_questions_under scheme spki (Sha512 bytes) MessageSignature signature = []

abbrev pub content_questions : ArtifactDigest → Checked → List AcceptedRow
content_questions d c = if_scheme (key_kind c.certificate.spki)
    (λ scheme. content_questions_under scheme c.certificate.spki d c.content c.signature)

-- ---- the promise

abbrev pub promise_questions_over : VerifyScheme → List ℕ → List ℕ → Result (List ℕ) CanonicalError → List AcceptedRow
promise_questions_over scheme spki promise (Ok text) = message_row scheme spki text promise ∷ []
promise_questions_over scheme spki promise (Err e) = []

abbrev pub promise_questions_by : VerifyScheme → List ℕ → TransparencyLogEntry → Option (List ℕ) → List AcceptedRow
promise_questions_by scheme spki e None = []
promise_questions_by scheme spki e (Some promise) =
    promise_questions_over scheme spki promise (canonical_of (promise_tree_of e))

abbrev pub promise_questions : VerifyScheme → List ℕ → TransparencyLogEntry → List AcceptedRow
promise_questions scheme spki e = promise_questions_by scheme spki e e.inclusion_promise

-- ---- the note

abbrev pub note_question : VerifyScheme → List ℕ → List ℕ → CheckpointSignature → List AcceptedRow
note_question scheme spki message s = message_row scheme spki message s.raw ∷ []

abbrev pub note_questions_of : VerifyScheme → List ℕ → SignedCheckpoint → List AcceptedRow
note_questions_of scheme spki n = flat_map (note_question scheme spki (note_text n.note)) n.signatures

abbrev pub checkpoint_questions : VerifyScheme → List ℕ → Result SignedCheckpoint CheckpointFault → List AcceptedRow
checkpoint_questions scheme spki (Ok n) = note_questions_of scheme spki n
checkpoint_questions scheme spki (Err fault) = []

abbrev pub text_questions : VerifyScheme → List ℕ → Option (List ℕ) → List AcceptedRow
text_questions scheme spki None = []
text_questions scheme spki (Some text) = checkpoint_questions scheme spki (checkpoint_of text)

abbrev pub checkpoint_in : Option ProofFields → Option (List ℕ)
checkpoint_in None = None
checkpoint_in (Some p) = p.checkpoint

-- the text of the entry's checkpoint
abbrev pub text_of_proof : TransparencyLogEntry → Option (List ℕ)
text_of_proof e = checkpoint_in e.inclusion_proof

abbrev pub note_questions : VerifyScheme → List ℕ → TransparencyLogEntry → List AcceptedRow
note_questions scheme spki e = text_questions scheme spki (text_of_proof e)

-- ---- both, under the key of the entry's log

abbrev pub spki_named : LogKeys → Option (List ℕ) → Option (List ℕ)
spki_named keys None = None
spki_named keys (Some id) = text_lookup (encode_lower id) keys

abbrev pub entry_questions_under : TransparencyLogEntry → Option (List ℕ) → List AcceptedRow
entry_questions_under e None = []
entry_questions_under e (Some spki) =
    if_scheme (key_kind spki) (λ scheme. promise_questions scheme spki e ++ note_questions scheme spki e)

abbrev pub entry_questions : LogKeys → TransparencyLogEntry → List AcceptedRow
entry_questions keys e = entry_questions_under e (spki_named keys e.log_id)

-- ---- all of them

-- after those of certificates
abbrev pub questions_after : ArtifactDigest → Trust → LogKeys → Checked → List AcceptedRow
questions_after d trust keys c = sct_questions trust c ++ (content_questions d c ++ entry_questions keys c.entry)

abbrev pub questions_of : ArtifactDigest → Trust → LogKeys → Checked → List AcceptedRow
questions_of d trust keys c = certificate_questions trust c ++ questions_after d trust keys c
