-- The verdict on an artifact, by those on its bundles.
use Rattle.sig_gate.proofs.VerifiedEntries.{artifact-verdict}
use Rattle.sig_manifest.specs.Artifact.{artifact_view}
use Rattle.sig_manifest.specs.Manifest.{manifest_view}
use Rattle.sig_verify.specs.Verdict.{checker_of}
use Rattle.sig_gate.proofs.admission.judge.Goals as goal

pub returns-clause-verdict : goal.returns-clause-verdict
returns-clause-verdict g c =
    artifact-verdict (checker_of g.C.SignatureChecker c.args.checker.now) (manifest_view c.args.manifest.now)
    (artifact_view c.args.artifact.now) c.in_ok-bundles.bundles c.as_slice.result.now c.in_ok-admitted.admitted
    c.in_ok-bundles.ensures.verdicts c.as_slice.ensures c.in_ok-admitted.ensures
