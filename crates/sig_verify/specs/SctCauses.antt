-- *Causes of the errors of an SCT*: each error of the link `sct` in the words of the certificate and of the trusted root
-- (RFC 6962 sections 3.2 and 3.3): the rules before it hold, and this one does not.
use Rattle.std.specs.Prelude.{◌≡◌, None, IsSome}
use Rattle.sig_checked_bundle.specs.Checked.{Checked}
use Rattle.sig_certificate.specs.Certificate.{Cert}
use Rattle.sig_timestamp.specs.Precert.{precertificate}
use Rattle.sig_timestamp.specs.Timestamps.{HasBadSct, LacksSct}
use Rattle.sig_timestamp.specs.Vectors.{IsLong, IsShort}
use Rattle.sig_timestamp.specs.declared.keyring_error.KeyringError.TheVariants as ring
use Rattle.sig_timestamp.specs.declared.sct_error.CertificateErrorKind.TheVariants as parsing
use Rattle.sig_timestamp.specs.declared.sct_error.SCTError.{SCTError}
use Rattle.sig_timestamp.specs.declared.sct_error.SCTError.TheVariants as sct
use Rattle.sig_verify.specs.CertificateLinks.{HasSignedBytes, IsVouchedFor, OfSct, Trust}
use Rattle.sig_verify.specs.Verdict.{Checker}

-- the certificate has one SCT, and what it signs is too long to have bytes
abbrev pub HasNoSignedBytes : Cert → Type 0
HasNoSignedBytes c = OfSct c (λ s. ¬ (IsLong (precertificate c) × IsShort s.extensions))

-- the certificate has no SCT, several or a malformed one; or what its SCT signs has no bytes; or the root has no key of
-- the SCT's log; or it has one, and the SCT's signature is not genuine
abbrev pub IsSctCause : Checker → Trust → Checked → SCTError → Type 0
IsSctCause k trust c (sct.Parsing parsing.LeafSCTMissing) = LacksSct c.certificate
IsSctCause k trust c (sct.Parsing parsing.LeafSCTMalformed) = HasBadSct c.certificate
IsSctCause k trust c (sct.Parsing parsing.IssuerMissing) = ⊥
IsSctCause k trust c sct.Serialization = HasNoSignedBytes c.certificate
IsSctCause k trust c (sct.Verification ring.KeyNotFound) =
    HasSignedBytes c.certificate × OfSct c.certificate (λ s. trust.points s.log_id ≡ None)
IsSctCause k trust c (sct.Verification ring.VerificationFailed) =
    HasSignedBytes c.certificate × OfSct c.certificate (λ s. IsSome (trust.points s.log_id))
    × ¬ IsVouchedFor k trust c
IsSctCause k trust c (sct.Verification other) = ⊥
IsSctCause k trust c sct.OutOfMemory = ⊥
