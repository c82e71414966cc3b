-- *Outcome*: what a result of offline verification says of its inputs, and a verifier's result of a bundle.
use Rattle.std.specs.Prelude.{ℕ, ℤ, Bool, ◌++◌, List, IfOk}
use Rattle.sig_base.specs.Answers.{UnlessMemory}
use Rattle.sig_base.specs.declared.checker.SignatureChecker as signature_checker
use Rattle.sig_bundle.specs.declared.bundle.Bundle.{Bundle}
use Rattle.sig_dsse.specs.declared.artifact_digest.ArtifactDigest.{ArtifactDigest}
use Rattle.sig_policy.specs.declared.policy.VerificationPolicy as verification_policy
use Rattle.sig_verify.specs.BundleLinks.{bundle_links}
use Rattle.sig_verify.specs.CertificateLinks.{certificate_links}
use Rattle.sig_verify.specs.Judged.{Judged}
use Rattle.sig_verify.specs.LinkLaws.{HoldsOfVerified, IsKept, renamed, trust_of}
use Rattle.sig_verify.specs.Links.{HoldsOf, Inputs, OfPassed, Outside, chain_links}
use Rattle.sig_verify.specs.OfflineVerdict.{IsOffline, Outcome}
use Rattle.sig_verify.specs.Verdict.{Answer, checker_of, policy_of}
use Rattle.sig_verify.specs.Verifier.{Trusted}
use Rattle.sig_verify.specs.declared.offline_error.OfflineError.TheVariants.{OutOfMemory}

-- what these values of the code settle: the signatures that are genuine, and the policy
abbrev pub outside_of : {C P : Type 0} → signature_checker.Ghosts C → C → verification_policy.Ghosts P → P → Outside
outside_of checks checker says policy = record { checker = checker_of checks checker; policy = policy_of says policy }

-- the text of a trusted root, a time, a digest and the text of a bundle
abbrev pub inputs_of : List ℕ → ℤ → ArtifactDigest → List ℕ → Inputs
inputs_of root now d bundle = record { root = root; now = now; digest = d; bundle = bundle }

-- ---- offline verification

-- There is a value if and only if every link holds, and an error is that of the first that does not, unless memory ran
-- out.
abbrev pub ShowsFirstLink : Outside → Inputs → Outcome → Type 0
ShowsFirstLink o i result = UnlessMemory OutOfMemory result (Judged (HoldsOf o i) chain_links result)

-- A value is the body of the bundle's log entry, with the proof that its members are.
abbrev pub KeepsEntry : Inputs → Outcome → Type 0
KeepsEntry i result = IfOk result (λ offline. OfPassed i (λ c. IsKept c.entry offline))

-- The result is by the steps, unless memory ran out.
abbrev pub GoesBySteps : Outside → Inputs → Outcome → Type 0
GoesBySteps o i result =
    UnlessMemory OutOfMemory result (IsOffline o.checker o.policy i.root i.now i.digest i.bundle result)

-- ---- a verifier

-- A verifier's result for a bundle is `Ok` only if the links `material` to `time` hold, and an error is that of the
-- first that does not.
abbrev pub ShowsFirstOfBundle : Outside → Trusted → ArtifactDigest → Bool → Bundle → Answer → Type 0
ShowsFirstOfBundle o trusted d offline b result =
    Judged (HoldsOfVerified o.checker o.policy (trust_of trusted) d offline b) (bundle_links ++ certificate_links)
    (renamed result)
