use Rattle.std.proofs.Common.{take}
use Rattle.std.specs.List.{AllZip}
use Rattle.sig_gate.specs.Gate.{IsVerdict}
use Rattle.sig_gate.specs.NamedPolicies.{AreHeldPolicies}
use Rattle.sig_gate.specs.NamedRoots.{AreHeld}
use Rattle.sig_manifest.specs.Artifact.{artifact_view}
use Rattle.sig_manifest.specs.Manifest.{manifest_view}
use Rattle.sig_verify.specs.Verdict.{checker_of}
use Rattle.sig_gate.proofs.admission.judge_each.Given as goal

-- the verdicts so far
abbrev pub invariant-artifacts : goal.invariant-artifacts
invariant-artifacts g l =
    AllZip (λ x verdict. IsVerdict (checker_of g.C.SignatureChecker l.checker) (manifest_view l.manifest) (artifact_view x)
    verdict) (take l.artifact-index l.artifacts) l.verdicts × AreHeld (manifest_view l.manifest) l.held
    × AreHeldPolicies (manifest_view l.manifest) l.policies
