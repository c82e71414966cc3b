-- *Question*: what the links of the chain of trust ask a checker, for inputs whose parts are there (RFC 5280 section
-- 6.1.3; RFC 6962 section 3.2; DSSE protocol; Rekor's signed entry timestamp; the checkpoint format of
-- transparency-dev).
use Rattle.std.specs.Prelude.{◌≡◌, ◌⊎◌, ℕ, List, [], ◌∷◌, Option, Some, slice_get}
use Rattle.sig_base.specs.declared.checker.AcceptedRow.{AcceptedRow}
use Rattle.sig_base.specs.declared.scheme.VerifyScheme.{VerifyScheme}
use Rattle.sig_checked_bundle.specs.Checked.{Checked}
use Rattle.sig_bundle.specs.Promise.{IsExactEntry, promise_of_entry}
use Rattle.sig_checked_bundle.specs.declared.content_check.CheckedContent.{CheckedContent}
use Rattle.sig_checked_bundle.specs.declared.content_check.CheckedContent.TheVariants.{MessageSignature, Dsse}
use Rattle.sig_bundle.specs.declared.material.TransparencyLogEntry.{TransparencyLogEntry}
use Rattle.sig_certificate.specs.Certificate.{Cert}
use Rattle.sig_dsse.specs.declared.artifact_digest.ArtifactDigest.{ArtifactDigest}
use Rattle.sig_dsse.specs.declared.artifact_digest.ArtifactDigest.TheVariants.{Sha256, Sha512}
use Rattle.sig_rekor.specs.NoteText.{note_text}
use Rattle.sig_rekor.specs.declared.checkpoint.CheckpointSignature.{CheckpointSignature}
use Rattle.sig_rekor.specs.declared.checkpoint.SignedCheckpoint.{SignedCheckpoint}
use Rattle.sig_timestamp.specs.Precert.{precertificate}
use Rattle.sig_timestamp.specs.SctBytes.{signed_bytes, signed_of}
use Rattle.sig_timestamp.specs.Vectors.{IsLong, IsShort}
use Rattle.sig_verify.specs.CertificateLinks.{OfScheme, OfSct, Trust}
use Rattle.sig_verify.specs.EntryLinks.{LogKeys, OfCheckpoint, OfLogKey}
use Rattle.sig_verify.specs.Links.{Inputs, OfChecked, OfLogged}
use Rattle.sig_x509.specs.Path.{IsNext}
use Rattle.sig_x509.specs.Pool.{pool_over}
use Rattle.sig_x509.specs.Possible.{OfPossiblePath}
use Rattle.sig_questions.specs.Rows.{certificate_row, message_row, point_row, prehash_row}

-- ---- the certificate

-- A certification path would lead from the certificate over the further ones of its bundle to a trust anchor, at the
-- first second of the certificate's validity, if every signature of a certificate were genuine; and of it this holds.
abbrev pub OfPath : Trust → Checked → (List Cert → Cert → Type 0) → Type 0
OfPath trust c P = OfPossiblePath (pool_over trust.anchors c.further) c.certificate c.certificate.not_before P

-- the signature of y under the key of x
abbrev pub signature_row : Cert → Cert → AcceptedRow
signature_row y x = certificate_row x.spki y.algorithm y.tbs y.signature

-- two certificates of such a path, one right after the other
abbrev pub IsCertificateRow : Trust → Checked → AcceptedRow → Type 0
IsCertificateRow trust c row = OfPath trust c (λ path anchor.
    (y : Cert) × (x : Cert) × IsNext c.certificate path anchor y x × (row ≡ signature_row y x))

-- the issuer of the certificate in a path
abbrev pub issuer_in : List Cert → Cert → Cert
issuer_in [] anchor = anchor
issuer_in (x ∷ xs) anchor = x

-- the one SCT of a certificate, over the certificate as issued under the key of x, under the point of the SCT's log;
-- what it signs has bytes
abbrev pub IsPointRowUnder : (List ℕ → Option (List ℕ)) → Cert → Cert → AcceptedRow → Type 0
IsPointRowUnder points c x row = OfSct c (λ s. IsLong (precertificate c) × IsShort s.extensions
    × (point : List ℕ) × (points s.log_id ≡ Some point)
    × (row ≡ point_row point (signed_bytes (signed_of c x.spki s)) s.signature))

-- under the key of the issuer in such a path
abbrev pub IsPointRow : Trust → Checked → AcceptedRow → Type 0
IsPointRow trust c row =
    OfPath trust c (λ path anchor. IsPointRowUnder trust.points c.certificate (issuer_in path anchor) row)

-- ---- the content

-- the signature over the encoding of an envelope, or over the SHA-256 digest of the artifact
abbrev pub IsSignatureRow : VerifyScheme → List ℕ → ArtifactDigest → CheckedContent → List ℕ → AcceptedRow → Type 0
IsSignatureRow scheme spki d (Dsse pae digests envelope payload) signature row =
    row ≡ message_row scheme spki pae signature
IsSignatureRow scheme spki (Sha256 bytes) MessageSignature signature row =
    row ≡ prehash_row scheme spki bytes signature
IsSignatureRow scheme spki (Sha512 bytes) MessageSignature signature row = ⊥

-- under the certificate's key
abbrev pub IsContentRow : ArtifactDigest → Checked → AcceptedRow → Type 0
IsContentRow d c row =
    OfScheme c.certificate (λ scheme. IsSignatureRow scheme c.certificate.spki d c.content c.signature row)

-- ---- the log entry

-- the promise over its text, under the key of the entry's log; its integers are within plus or minus 2^53 - 1
abbrev pub IsPromiseRow : LogKeys → TransparencyLogEntry → AcceptedRow → Type 0
IsPromiseRow keys e row = OfLogKey keys e (λ key. IsExactEntry e × (promise : List ℕ)
    × (e.inclusion_promise ≡ Some promise) × (row ≡ message_row key.0 key.1 (promise_of_entry e) promise))

-- one of the signatures of the checkpoint over its note, under that key
abbrev pub IsNoteRowOf : VerifyScheme × List ℕ → SignedCheckpoint → AcceptedRow → Type 0
IsNoteRowOf key n row = (index : ℕ) × (s : CheckpointSignature) × (slice_get n.signatures index ≡ Some s)
    × (row ≡ message_row key.0 key.1 (note_text n.note) s.raw)

abbrev pub IsNoteRow : LogKeys → TransparencyLogEntry → AcceptedRow → Type 0
IsNoteRow keys e row = OfLogKey keys e (λ key. OfCheckpoint e (λ p n. IsNoteRowOf key n row))

-- ---- all of them

abbrev pub IsAskedBy : Inputs → AcceptedRow → Type 0
IsAskedBy i row =
    OfChecked i (λ trust c. IsCertificateRow trust c row)
    ⊎ (OfChecked i (λ trust c. IsPointRow trust c row)
    ⊎ (OfChecked i (λ trust c. IsContentRow i.digest c row)
    ⊎ (OfLogged i (λ keys e. IsPromiseRow keys e row)
    ⊎ OfLogged i (λ keys e. IsNoteRow keys e row))))
