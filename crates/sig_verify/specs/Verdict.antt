-- The links `material` to `time` of a bundle, as one result: the first of them that fails, or that none does.
use Rattle.std.specs.Prelude.{◌≡◌, ◌⊎◌, Bool, true, false, Result, Ok, Err}
use Rattle.sig_base.specs.declared.checker.SignatureChecker as signature_checker
use Rattle.sig_checked_bundle.specs.Checked.{Checked, IsChecked}
use Rattle.sig_checked_bundle.specs.LogBody.{IsLogBody, NeedsNoFetch}
use Rattle.sig_bundle.specs.declared.bundle.Bundle.{Bundle as BundleType}
use Rattle.sig_checked_bundle.specs.declared.bundle_error.BundleErrorKind.{BundleErrorKind}
use Rattle.sig_certificate.specs.Certificate.{Cert}
use Rattle.sig_dsse.specs.Digest.{digest_bytes}
use Rattle.sig_dsse.specs.declared.artifact_digest.ArtifactDigest.{ArtifactDigest}
use Rattle.sig_policy.specs.Refusals.{Refusal, IsRefusal}
use Rattle.sig_policy.specs.declared.failure.PolicyError.{PolicyError}
use Rattle.sig_policy.specs.declared.policy.VerificationPolicy as verification_policy
use Rattle.sig_x509.specs.Issuance.{Accepts}
use Rattle.sig_verify.specs.ContentCheck.{AcceptsSpki, content_answer, time_answer}
use Rattle.sig_timestamp.specs.Vouched.{AcceptsPoint}
use Rattle.sig_verify.specs.IssuerCheck.{issued_answer}
use Rattle.sig_verify.specs.Verifier.{Trusted}
use Rattle.sig_verify.specs.declared.error.SignatureErrorKind.TheVariants.{Transparency}
use Rattle.sig_verify.specs.declared.error.VerificationError.{VerificationError}
use Rattle.sig_verify.specs.declared.error.VerificationError.TheVariants.{Bundle, Policy, Signature}

-- what a checker accepts: signatures over messages and over digests under a key, under a point, and of certificates
pub record Checker : Type 0 where
  pub spki : AcceptsSpki
  pub prehash : AcceptsSpki
  pub point : AcceptsPoint
  pub cert : Accepts

-- what this value of the code accepts
abbrev pub checker_of : {C : Type 0} → signature_checker.Ghosts C → C → Checker
checker_of members checker = record {
  spki = members.spki_accepts checker;
  prehash = members.prehash_accepts checker;
  point = members.point_accepts checker;
  cert = members.cert_accepts checker;
}

-- the certificates that a policy accepts, and its error for every other one
pub record PolicyOf : Type 0 where
  pub holds : Cert → Bool
  pub refusal : Cert → Refusal

-- what this value of the code says
abbrev pub policy_of : {P : Type 0} → verification_policy.Ghosts P → P → PolicyOf
policy_of members policy = record { holds = members.holds policy; refusal = members.refusal policy }

abbrev pub Answer : Type 0
Answer = Result (Unit {0}) VerificationError

-- ---- what comes after a step, which ends the steps where it fails

-- nothing does
abbrev pub IsDone : Answer → Type 0
IsDone last = last ≡ Ok tt

abbrev pub After : Answer → (Answer → Type 0) → Answer → Type 0
After (Ok _) Next result = Next result
After (Err error) Next result = result ≡ Err error

abbrev pub AfterPolicy : Bool → Refusal → (Answer → Type 0) → Answer → Type 0
AfterPolicy true refusal Next result = Next result
AfterPolicy false refusal Next result = (why : PolicyError) × (result ≡ Err (Policy why)) × IsRefusal refusal why

-- the log's body is about the bundle and the artifact of this digest, and nothing has to be fetched
abbrev pub HasBody : Checked → ArtifactDigest → Bool → Type 0
HasBody c d offline = IsLogBody c (digest_bytes d) × NeedsNoFetch offline c.entry

abbrev pub AfterBody : Checked → ArtifactDigest → Bool → (Answer → Type 0) → Answer → Type 0
AfterBody c d offline Next result =
    (HasBody c d offline × Next result) ⊎ (¬ HasBody c d offline × (result ≡ Err (Signature Transparency)))

-- ---- the steps

-- `body` and `time`
abbrev pub IsVerdictFromBody : ArtifactDigest → Bool → Checked → Answer → Type 0
IsVerdictFromBody d offline c = AfterBody c d offline (λ last. last ≡ time_answer c)

-- `key`, `signature` and `subject`, and those
abbrev pub IsVerdictFromKey : Checker → ArtifactDigest → Bool → Checked → Answer → Type 0
IsVerdictFromKey k d offline c = After (content_answer k.spki k.prehash d c) (IsVerdictFromBody d offline c)

-- `policy`, and those
abbrev pub IsVerdictFromPolicy : Checker → PolicyOf → ArtifactDigest → Bool → Checked → Answer → Type 0
IsVerdictFromPolicy k policy d offline c =
    AfterPolicy (policy.holds c.certificate) (policy.refusal c.certificate) (IsVerdictFromKey k d offline c)

-- `issuance`, `issuer` and `sct`, and those
abbrev pub IsVerdictFromIssuance : Checker → Trusted → PolicyOf → ArtifactDigest → Bool → Checked → Answer → Type 0
IsVerdictFromIssuance k trusted policy d offline c =
    After (issued_answer k.cert k.point trusted c) (IsVerdictFromPolicy k policy d offline c)

-- `material` to `profile`, and those
abbrev pub IsVerdict : Checker → Trusted → PolicyOf → ArtifactDigest → Bool → BundleType → Answer → Type 0
IsVerdict k trusted policy d offline bundle result =
    ((kind : BundleErrorKind) × IsChecked bundle (Err kind) × (result ≡ Err (Bundle kind)))
    ⊎ ((c : Checked) × IsChecked bundle (Ok c) × IsVerdictFromIssuance k trusted policy d offline c result)
