-- *Signature and subject*, and the time of the log entry: the links `key`, `signature`, `subject` and `time` as one
-- result.
use Rattle.std.specs.Prelude.{ℕ, int_le, Bool, true, false, ◌&&◌, if◌then◌else◌, List, Result, Ok, Err}
use Rattle.std.specs.List.{list_any}
use Rattle.std.specs.Str.{bytes_eq}
use Rattle.sig_base.specs.ResultSteps.{◌>>=◌}
use Rattle.sig_base.specs.declared.error.SigstoreError.{SigstoreError}
use Rattle.sig_base.specs.declared.scheme.VerifyScheme.{VerifyScheme}
use Rattle.sig_checked_bundle.specs.Checked.{Checked}
use Rattle.sig_checked_bundle.specs.declared.content_check.CheckedContent.{CheckedContent}
use Rattle.sig_checked_bundle.specs.declared.content_check.CheckedContent.TheVariants.{MessageSignature, Dsse}
use Rattle.sig_dsse.specs.declared.artifact_digest.ArtifactDigest.{ArtifactDigest}
use Rattle.sig_dsse.specs.declared.artifact_digest.ArtifactDigest.TheVariants.{Sha256, Sha512}
use Rattle.sig_key.specs.Kind.{key_kind, kind_answer}
use Rattle.sig_verify.specs.declared.error.CertificateErrorKind.TheVariants.{Expired}
use Rattle.sig_verify.specs.declared.error.SignatureErrorKind.TheVariants.{AlgoUnsupported, VerificationFailed}
use Rattle.sig_verify.specs.declared.error.SignatureErrorKind.TheVariants.{SubjectDigestMismatch}
use Rattle.sig_verify.specs.declared.error.SignatureErrorKind.TheVariants.{DigestAlgorithmUnsupported}
use Rattle.sig_verify.specs.declared.error.VerificationError.{VerificationError}
use Rattle.sig_verify.specs.declared.error.VerificationError.TheVariants.{Certificate, Signature}

-- the signatures that a checker accepts under a scheme and a SubjectPublicKeyInfo, over messages or over digests
abbrev pub AcceptsSpki : Type 0
AcceptsSpki = VerifyScheme → List ℕ → List ℕ → List ℕ → Bool

-- the same under one key
abbrev pub AcceptsUnder : Type 0
AcceptsUnder = List ℕ → List ℕ → Bool

-- ---- the key

abbrev pub or_unsupported : Result (VerifyScheme × List ℕ) SigstoreError
    → Result (VerifyScheme × List ℕ) VerificationError
or_unsupported (Ok key) = Ok key
or_unsupported (Err error) = Err (Signature AlgoUnsupported)

-- the scheme of the key that these bytes are, with the bytes
abbrev pub certificate_key_answer : List ℕ → Result (VerifyScheme × List ℕ) VerificationError
certificate_key_answer spki = or_unsupported (kind_answer spki (key_kind spki))

-- ---- the signature

abbrev pub if_accepted : Bool → Result (Unit {0}) VerificationError
if_accepted true = Ok tt
if_accepted false = Err (Signature VerificationFailed)

-- over the encoding of an envelope, or over the artifact by its SHA-256 digest
abbrev pub signature_answer : AcceptsUnder → AcceptsUnder → ArtifactDigest → CheckedContent → List ℕ
    → Result (Unit {0}) VerificationError
signature_answer message digest d (Dsse pae digests text payload) signature = if_accepted (message pae signature)
signature_answer message digest (Sha256 bytes) MessageSignature signature = if_accepted (digest bytes signature)
signature_answer message digest (Sha512 bytes) MessageSignature signature = Err (Signature DigestAlgorithmUnsupported)

-- ---- the subject

-- one algorithm, and the same bytes
abbrev pub is_same : ArtifactDigest → ArtifactDigest → Bool
is_same (Sha256 one) (Sha256 other) = bytes_eq one other
is_same (Sha512 one) (Sha512 other) = bytes_eq one other
is_same (Sha256 one) (Sha512 other) = false
is_same (Sha512 one) (Sha256 other) = false

-- a signature over the artifact is about it, and a statement is if a subject has its digest
abbrev pub is_about : CheckedContent → ArtifactDigest → Bool
is_about MessageSignature d = true
is_about (Dsse pae digests text payload) d = list_any (λ subject. is_same subject d) digests

abbrev pub if_about : Bool → Result (Unit {0}) VerificationError
if_about true = Ok tt
if_about false = Err (Signature SubjectDigestMismatch)

-- ---- the three in order

abbrev pub content_answer : AcceptsSpki → AcceptsSpki → ArtifactDigest → Checked → Result (Unit {0}) VerificationError
content_answer spki prehash d c = do
  key ← certificate_key_answer c.certificate.spki
  _ ← signature_answer (spki key.0 key.1) (prehash key.0 key.1) d c.content c.signature
  if_about (is_about c.content d)

-- ---- the time

-- the log took the entry while the certificate was valid, both ends included
abbrev pub time_answer : Checked → Result (Unit {0}) VerificationError
time_answer c =
    if int_le c.certificate.not_before c.entry.integrated_time
    && int_le c.entry.integrated_time c.certificate.not_after
    then Ok tt else Err (Certificate Expired)
