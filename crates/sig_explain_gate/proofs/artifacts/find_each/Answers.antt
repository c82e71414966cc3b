-- The result for one more artifact, and for all.
use Rattle.std.proofs.Common.{List, sym, subst}
use Rattle.std.specs.List.{AllByRecursion}
use Rattle.sig_explain_gate.proofs.FoundArtifacts.{all-artifacts, listed-more}
use Rattle.sig_gate.proofs.Zips.{each-viewed}
use Rattle.sig_gate_command.specs.Request.{parts_of}
use Rattle.sig_json.specs.Tree.{document_tree}
use Rattle.sig_manifest.specs.Artifact.{artifact_view}
use Rattle.sig_manifest.specs.Manifest.{artifacts_view, manifest_view}
use Rattle.sig_manifest.specs.Unknown.{IsNamedIn}
use Rattle.sig_manifest.specs.declared.artifact.Artifact.{Artifact}
use Rattle.sig_explain_gate.proofs.artifacts.find_each.Goals as goal

pub find_artifact-requires-clause-named : goal.find_artifact-requires-clause-named
find_artifact-requires-clause-named c =
    let gate = manifest_view c.args.request.now.manifest in
    each-viewed artifact_view (IsNamedIn gate) c.as_slice-artifacts.result.now c.artifacts.artifact-index c.artifact-item.result
    c.artifacts-test.true c.artifact-item.is
    (subst (λ (xs : List Artifact). AllByRecursion (IsNamedIn gate) (artifacts_view xs)) (sym c.as_slice-artifacts.ensures)
    c.requires.named)

pub artifacts-preserved : goal.artifacts-preserved
artifacts-preserved c = (
  listed-more (parts_of c.args.request.now) c.as_slice-artifacts.result.now c.artifacts.artifact-index
      c.artifact-item.result c.in_ok-found.found c.artifacts.verdicts c.push.new.self (document_tree c.artifacts.list)
      (document_tree c.push-in-artifacts.new.self) c.artifacts-test.true c.artifact-item.is c.in_ok-found.ensures.found
      c.in_ok-push.ensures.ok c.in_ok-push-2.ensures.ok c.artifacts.invariant.0,
  c.in_ok-found.ensures.read,
  c.in_ok-found.ensures.policies,
)

pub returns : goal.returns
returns c =
    all-artifacts c.args.request.now c.as_slice-artifacts.result.now c.artifacts.artifact-index
    (record { verdicts = c.artifacts.verdicts; list = c.artifacts.list }) c.as_slice-artifacts.ensures c.artifacts-test.false
    c.artifacts.invariant.0
