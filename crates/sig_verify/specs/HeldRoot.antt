-- *Held root*: what a trusted root gives at a time, and the result of a bundle under it. A root is made from its text
-- once, and each bundle's result is that of offline verification from the root's text on.
use Rattle.std.specs.Prelude.{◌≡◌, ℕ, ℤ, true, List, Result, Ok, Err}
use Rattle.std.specs.Borrow.{Bor}
use Rattle.std.specs.List.{AllByRecursion}
use Rattle.sig_base.specs.declared.error.SigstoreError.{SigstoreError}
use Rattle.sig_base.specs.declared.error.SigstoreError.TheVariants.{CertificatePoolError, TufMetadataError}
use Rattle.sig_base.specs.declared.fault.PoolError.TheVariants as pool
use Rattle.sig_bundle.specs.declared.bundle.Bundle.{Bundle as BundleType}
use Rattle.sig_dsse.specs.declared.artifact_digest.ArtifactDigest.{ArtifactDigest}
use Rattle.sig_json.specs.declared.error.JsonError.{JsonError}
use Rattle.sig_root.specs.OfBytes.{HasRawBytes}
use Rattle.sig_root.specs.RootRecord.{trusted_root_in}
use Rattle.sig_root.specs.declared.record.TrustedRoot.{TrustedRoot}
use Rattle.sig_verify.specs.LinkLaws.{renamed}
use Rattle.sig_verify.specs.OfflineErrors.{of_root}
use Rattle.sig_verify.specs.OfflineVerdict.{IsOfflineOf, Outcome, authorities_of, ct_keys_of}
use Rattle.sig_verify.specs.RootLinks.{rekor_keys}
use Rattle.sig_verify.specs.Verdict.{Answer, Checker, IsVerdict, PolicyOf}
use Rattle.sig_verify.specs.Verifier.{IsRefusedRoot, IsVerifierOf, Trusted}
use Rattle.sig_verify.specs.declared.held_root.HeldRoot.{HeldRoot}
use Rattle.sig_verify.specs.declared.held_root.RootFault.{RootFault}
use Rattle.sig_verify.specs.declared.held_root.RootFault.TheVariants.{Lacks, Anchor}
use Rattle.sig_verify.specs.declared.held_root.Trust.{Trust}
use Rattle.sig_verify.specs.declared.offline_error.OfflineError.{OfflineError}
use Rattle.sig_verify.specs.declared.offline_error.OfflineError.TheVariants.{Json}
use Rattle.sig_verify.specs.declared.offline_error.Part.TheVariants.{Root}

-- the error of a trusted root that this link refuses
abbrev pub fault_error : RootFault → SigstoreError
fault_error (Lacks part) = TufMetadataError part
fault_error (Anchor index) = CertificatePoolError (pool.Anchor index)

-- ---- what is held

-- the root's verifier and the keys of its logs, or the first of its links that fails
abbrev pub IsTrustOf : TrustedRoot → ℤ → Result Trust RootFault → Type 0
IsTrustOf root now (Ok trust) =
    IsVerifierOf (authorities_of root now) (ct_keys_of root now) trust.verifier
    × (trust.log_keys ≡ rekor_keys root now)
IsTrustOf root now (Err fault) = IsRefusedRoot (authorities_of root now) (ct_keys_of root now) (fault_error fault)

-- a trusted root gives this at a time
abbrev pub IsGivenBy : TrustedRoot → ℤ → HeldRoot → Type 0
IsGivenBy root now held = IsTrustOf root now held.trust

-- the trusted root that this text is gives this at a time; its keys are bytes
pub record IsHeldOf (text : List ℕ) (now : ℤ) (held : HeldRoot) : Type 0 where
  pub root : TrustedRoot
  pub read : trusted_root_in text ≡ Ok root
  pub keys : AllByRecursion HasRawBytes root.tlogs
  pub given : IsGivenBy root now held

-- what reading a text returns: what its root gives, or why the text is not a trusted root
abbrev pub IsHeldIn : List ℕ → ℤ → Result HeldRoot OfflineError → Type 0
IsHeldIn text now (Ok held) = IsHeldOf text now held
IsHeldIn text now (Err error) = (why : JsonError) × (trusted_root_in text ≡ Err why) × (error ≡ Json Root why)

-- ---- the links under it

abbrev pub from_fault : Result Trust RootFault → Result Trust OfflineError
from_fault (Ok trust) = Ok trust
from_fault (Err fault) = Err (of_root (fault_error fault))

-- `fulcio`, `anchor` and `ctfe`
abbrev pub trust_answer : HeldRoot → Result Trust OfflineError
trust_answer held = from_fault held.trust

abbrev pub borrowed_trust : Result (Bor Trust) OfflineError → Result Trust OfflineError
borrowed_trust (Ok trust) = Ok trust.now
borrowed_trust (Err error) = Err error

-- `material` to `time`: the result of a verifier, with its errors as those of the chain of trust
abbrev pub IsVerdictUnder : Checker → PolicyOf → Trusted → ArtifactDigest → BundleType
    → Result (Unit {0}) OfflineError → Type 0
IsVerdictUnder k policy trusted d bundle result =
    (answer : Answer) × IsVerdict k trusted policy d true bundle answer × (result ≡ renamed answer)

-- the links `fulcio` to `inclusion`, whatever trusted root gives what is held
abbrev pub IsOfflineUnder : Checker → PolicyOf → HeldRoot → ArtifactDigest → BundleType → Outcome → Type 0
IsOfflineUnder k policy held d bundle result =
    (root : TrustedRoot) (now : ℤ) → IsGivenBy root now held → IsOfflineOf k policy root now d bundle result
