-- *Checked bundle*: what a bundle's own checks, one after another, make of it (Sigstore bundle format).
use Rattle.std.specs.Prelude.{◌≡◌, ℕ, List, Option, Some, None, Result, Ok, Err}
use Rattle.sig_base.specs.ResultSteps.{◌>>=◌}
use Rattle.sig_certificate.specs.Certificate.{Cert}
use Rattle.sig_checked_bundle.specs.Content.{content_with_signature}
use Rattle.sig_checked_bundle.specs.Profile.{entry_among, meets_profile}
use Rattle.sig_checked_bundle.specs.SigningCertificate.{IsSigningCertificate}
use Rattle.sig_bundle.specs.declared.bundle.Bundle.{Bundle}
use Rattle.sig_checked_bundle.specs.declared.bundle_error.BundleErrorKind.{BundleErrorKind}
use Rattle.sig_checked_bundle.specs.declared.bundle_error.BundleErrorKind.TheVariants.{VerificationMaterialMissing}
use Rattle.sig_checked_bundle.specs.declared.content_check.CheckedContent.{CheckedContent}
use Rattle.sig_checked_bundle.specs.declared.signing_certificate.SigningChain.{SigningChain}
use Rattle.sig_bundle.specs.declared.material.TransparencyLogEntry.{TransparencyLogEntry}
use Rattle.sig_bundle.specs.declared.material.VerificationMaterial.{VerificationMaterial}

-- A bundle that passed: the signing certificate, the further ones in order, the signature, what it has to be over, the
-- log entry.
pub record Checked : Type 0 where
  pub certificate : Cert
  pub further : List Cert
  pub signature : List ℕ
  pub content : CheckedContent
  pub entry : TransparencyLogEntry

-- The checks in order; the last argument is the result of the certificates' check. The first that fails ends them.
abbrev pub checked : Bundle → VerificationMaterial → Result SigningChain BundleErrorKind
    → Result Checked BundleErrorKind
checked bundle material answer = do
  chain ← answer
  content ← content_with_signature bundle.content
  entry ← entry_among material.tlog_entries
  _ ← meets_profile bundle.media_type entry
  Ok (record {
    certificate = chain.certificate;
    further = chain.further;
    signature = content.signature;
    content = content.content;
    entry = entry;
  })

abbrev pub IsCheckedWith : Bundle → Option VerificationMaterial → Result Checked BundleErrorKind → Type 0
IsCheckedWith bundle None answer = answer ≡ Err VerificationMaterialMissing
IsCheckedWith bundle (Some material) answer =
    (chain : Result SigningChain BundleErrorKind) × IsSigningCertificate material.content chain ×
    (answer ≡ checked bundle material chain)

-- the result of a bundle's checks: the bundle as checked, or the first error that has its cause
abbrev pub IsChecked : Bundle → Result Checked BundleErrorKind → Type 0
IsChecked bundle answer = IsCheckedWith bundle bundle.verification_material answer
