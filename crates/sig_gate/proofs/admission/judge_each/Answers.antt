-- One artifact more is judged; and all of them.
use Rattle.std.proofs.Common.{refl, sym, subst, List}
use Rattle.std.specs.List.{AllByRecursion, AllZip}
use Rattle.sig_base.proofs.PairedLists.{zip_more}
use Rattle.sig_gate.proofs.Zips.{each-viewed, zip-all, zip-viewed}
use Rattle.sig_gate.specs.Gate.{IsVerdict}
use Rattle.sig_gate.specs.declared.verdict.Verdict.{Verdict}
use Rattle.sig_manifest.specs.Artifact.{artifact_view}
use Rattle.sig_manifest.specs.Manifest.{artifacts_view, manifest_view}
use Rattle.sig_manifest.specs.Unknown.{IsNamedIn}
use Rattle.sig_manifest.specs.declared.artifact.Artifact.{Artifact}
use Rattle.sig_verify.specs.Verdict.{checker_of}
use Rattle.sig_gate.proofs.admission.judge_each.Goals as goal

pub judge-requires-clause-named : goal.judge-requires-clause-named
judge-requires-clause-named g c =
    let gate = manifest_view c.args.manifest.now in
    each-viewed artifact_view (IsNamedIn gate) c.as_slice-artifacts.result.now c.artifacts.artifact-index
    c.artifact-item.result c.artifacts-test.true c.artifact-item.is
    (subst (λ (xs : List Artifact). AllByRecursion (IsNamedIn gate) (artifacts_view xs)) (sym c.as_slice-artifacts.ensures)
    c.requires.named)

pub artifacts-preserved : goal.artifacts-preserved
artifacts-preserved g c =
    let k = checker_of g.C.SignatureChecker c.args.checker.now in
    let gate = manifest_view c.args.manifest.now in (
      zip_more (λ (x : Artifact) (verdict : Verdict). IsVerdict k gate (artifact_view x) verdict) _ _
          c.artifacts.artifact-index c.artifact-item.result c.artifact-item.result c.in_ok-verdict.verdict
          c.artifacts.verdicts c.push.new.self refl c.artifacts-test.true c.artifact-item.is refl
          c.in_ok-verdict.ensures.verdict c.in_ok-push.ensures.ok c.artifacts.invariant.0,
      c.in_ok-verdict.ensures.held,
      c.in_ok-verdict.ensures.policies,
    )

pub returns : goal.returns
returns g c =
    let k = checker_of g.C.SignatureChecker c.args.checker.now in
    let gate = manifest_view c.args.manifest.now in
    let R = λ (x : Artifact) (verdict : Verdict). IsVerdict k gate (artifact_view x) verdict in
    zip-viewed artifact_view (IsVerdict k gate) c.args.manifest.now.artifacts c.artifacts.verdicts
    (subst (λ (xs : List Artifact). AllZip R xs c.artifacts.verdicts) c.as_slice-artifacts.ensures
    (zip-all R c.as_slice-artifacts.result.now c.artifacts.verdicts c.artifacts.artifact-index c.artifacts-test.false
    c.artifacts.invariant.0))
