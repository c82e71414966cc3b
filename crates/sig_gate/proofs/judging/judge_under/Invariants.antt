use Rattle.std.proofs.Common.{take}
use Rattle.std.specs.List.{AllZip}
use Rattle.sig_gate.specs.BundleVerdict.{IsBundleVerdict}
use Rattle.sig_manifest.specs.Artifact.{artifact_view}
use Rattle.sig_manifest.specs.Manifest.{manifest_view}
use Rattle.sig_verify.specs.Verdict.{checker_of}
use Rattle.sig_gate.proofs.judging.judge_under.Given as goal

-- the verdicts so far
abbrev pub invariant-bundles : goal.invariant-bundles
invariant-bundles g l =
    AllZip (IsBundleVerdict (checker_of g.C.SignatureChecker l.checker) (manifest_view l.manifest) (artifact_view l.artifact))
    (take l.bundle-index l.bundles) l.verdicts
