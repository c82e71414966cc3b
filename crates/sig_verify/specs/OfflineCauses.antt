-- *Causes of the errors of offline verification*: what an error says that its link does not, in the words of the
-- inputs. `Judged` says for each that the link is the first that does not hold.
use Rattle.std.specs.Prelude.{◌≡◌, ℕ, List, Err}
use Rattle.sig_bundle.specs.BundleRecord.{bundle_in}
use Rattle.sig_checked_bundle.specs.Refusals.{IsCause}
use Rattle.sig_checked_bundle.specs.declared.content_check.CheckedContent.{CheckedContent}
use Rattle.sig_checked_bundle.specs.declared.content_check.CheckedContent.TheVariants.{MessageSignature}
use Rattle.sig_dsse.specs.declared.artifact_digest.ArtifactDigest.{ArtifactDigest}
use Rattle.sig_dsse.specs.declared.artifact_digest.ArtifactDigest.TheVariants.{Sha512}
use Rattle.sig_policy.specs.Refusals.{IsRefusal}
use Rattle.sig_root.specs.RootRecord.{trusted_root_in}
use Rattle.sig_x509.specs.Issuance.{IsFirstNoAnchor}
use Rattle.sig_verify.specs.EntryCauses.{IsEntryCause}
use Rattle.sig_verify.specs.Links.{Inputs, OfBundle, OfChecked, OfLogged, OfPassed, OfRoot, Outside}
use Rattle.sig_verify.specs.OfflineLaws.{AreReadInputs}
use Rattle.sig_verify.specs.OfflineVerdict.{IsOffline}
use Rattle.sig_verify.specs.RootLinks.{authorities}
use Rattle.sig_verify.specs.SctCauses.{IsSctCause}
use Rattle.sig_verify.specs.declared.error.CertificateErrorKind.{CertificateErrorKind}
use Rattle.sig_verify.specs.declared.error.CertificateErrorKind.TheVariants as certificate
use Rattle.sig_verify.specs.declared.error.SignatureErrorKind.{SignatureErrorKind}
use Rattle.sig_verify.specs.declared.error.SignatureErrorKind.TheVariants as signature
use Rattle.sig_verify.specs.declared.offline_error.OfflineError.{OfflineError}
use Rattle.sig_verify.specs.declared.offline_error.OfflineError.TheVariants as error
use Rattle.sig_verify.specs.declared.offline_error.Part.TheVariants as text

-- a signature over the artifact itself, whose digest is not SHA-256
pub record IsOverOther (d : ArtifactDigest) (content : CheckedContent) : Type 0 where
  pub itself : content ≡ MessageSignature
  pub bytes : List ℕ
  pub wide : d ≡ Sha512 bytes

-- which of the two errors of the link `signature`
abbrev pub IsSignatureCause : ArtifactDigest → CheckedContent → SignatureErrorKind → Type 0
IsSignatureCause d content signature.DigestAlgorithmUnsupported = IsOverOther d content
IsSignatureCause d content signature.VerificationFailed = ¬ IsOverOther d content
IsSignatureCause d content signature.AlgoUnsupported = Unit {0}
IsSignatureCause d content signature.SubjectDigestMismatch = Unit {0}
IsSignatureCause d content signature.Transparency = Unit {0}

-- which of the errors of the link `sct`; those of the other links on a certificate are one each
abbrev pub IsCertificateCause : Outside → Inputs → CertificateErrorKind → Type 0
IsCertificateCause o i (certificate.Sct why) = OfChecked i (λ trust c. IsSctCause o.checker trust c why)
IsCertificateCause o i other = Unit {0}

abbrev pub IsOfflineCause : Outside → Inputs → OfflineError → Type 0
IsOfflineCause o i (error.Json text.Root why) = trusted_root_in i.root ≡ Err why
IsOfflineCause o i (error.Json text.Bundle why) = bundle_in i.bundle ≡ Err why
IsOfflineCause o i (error.TrustRoot part) = Unit {0}
IsOfflineCause o i (error.Anchor place) = OfRoot i (λ root. IsFirstNoAnchor (authorities root i.now) place)
IsOfflineCause o i (error.Bundle kind) = OfBundle i (λ b. IsCause kind b)
IsOfflineCause o i (error.Certificate kind) = IsCertificateCause o i kind
IsOfflineCause o i (error.Policy why) = OfPassed i (λ c. IsRefusal (o.policy.refusal c.certificate) why)
IsOfflineCause o i (error.Signature kind) = OfPassed i (λ c. IsSignatureCause i.digest c.content kind)
IsOfflineCause o i error.OutOfMemory = Unit {0}
IsOfflineCause o i why = OfLogged i (λ keys e. IsEntryCause o.checker.spki keys e why)

-- each error comes only with its cause
abbrev pub OfflineErrorsHaveTheirCause : Type 0
OfflineErrorsHaveTheirCause = (o : Outside) (i : Inputs) → AreReadInputs i → (why : OfflineError)
    → IsOffline o.checker o.policy i.root i.now i.digest i.bundle (Err why) → IsOfflineCause o i why
