-- One bundle more is judged.
use Rattle.std.proofs.Common.{refl}
use Rattle.sig_base.proofs.PairedLists.{zip_more}
use Rattle.sig_gate.proofs.FoundVerdicts.{bundle-verdict}
use Rattle.sig_gate.specs.BundleVerdict.{IsBundleVerdict}
use Rattle.sig_manifest.specs.Artifact.{artifact_view}
use Rattle.sig_manifest.specs.Manifest.{manifest_view}
use Rattle.sig_verify.specs.Verdict.{checker_of}
use Rattle.sig_gate.proofs.judging.judge_under.Goals as goal

pub bundles-preserved : goal.bundles-preserved
bundles-preserved g c =
    let k = checker_of g.C.SignatureChecker c.args.checker.now in
    let gate = manifest_view c.args.manifest.now in
    let x = artifact_view c.args.artifact.now in
    zip_more (IsBundleVerdict k gate x) _ _ c.bundles.bundle-index c.bundle-item.result c.bundle-item.result
    c.in_ok-verdict.verdict c.bundles.verdicts c.push.new.self refl c.bundles-test.true c.bundle-item.is refl
    (bundle-verdict k gate x c.bundle-item.result c.as_slice.result.now c.args.policy.now c.args.root.now
    c.in_ok-verdict.verdict c.requires.root c.requires.policy c.as_slice.ensures c.in_ok-verdict.ensures)
    c.in_ok-push.ensures.ok c.bundles.invariant
