-- The list has what the bundles of the artifacts so far ask for, and in the end of all, or has no room for the next.
use Rattle.std.proofs.Common.{◌<◌, ◌≤◌, ◌∙◌, Bool, [], ap, arith, get_or, length, subst}
use Rattle.sig_gate.proofs.Zips.{each-viewed}
use Rattle.sig_gate_command.proofs.Listings.{list-none}
use Rattle.sig_gate_command.proofs.Walks.{artifact-more, artifact-past, document-past, document-whole, inputs_before, none-yet, some-list}
use Rattle.sig_gate_command.specs.Questions.{artifact_inputs}
use Rattle.sig_gate_command.specs.RowList.{HasAddedOf}
use Rattle.sig_json.specs.Tree.{tree}
use Rattle.sig_manifest.specs.Artifact.{artifact_view}
use Rattle.sig_manifest.specs.Manifest.{manifest_view}
use Rattle.sig_manifest.specs.Unknown.{IsNamedIn}
use Rattle.sig_gate_command.proofs.rows.document_under.Goals as goal

pub artifacts-init : goal.artifacts-init
artifacts-init c = (
  none-yet [] c.new-rows.result
      (list-none c.args.most c.new-rows.result c.new-rows.ensures c.requires.least),
  c.new-rows.ensures.most_is,
  c.requires.held,
)

pub add_artifact-requires-clause-named : goal.add_artifact-requires-clause-named
add_artifact-requires-clause-named c =
    each-viewed artifact_view (IsNamedIn (manifest_view c.args.manifest.now)) c.args.manifest.now.artifacts
    c.artifacts.artifact-index c.artifact-item.result
    (omega (arith, c.artifacts-test.true, ap length c.as_slice-artifact-items.ensures))
    (c.artifact-item.is ∙ ap (λ items. get_or items c.artifacts.artifact-index c.artifact-item.result)
    c.as_slice-artifact-items.ensures) c.requires.named

pub add_artifact-requires-clause-list : goal.add_artifact-requires-clause-list
add_artifact-requires-clause-list c =
    some-list (inputs_before (manifest_view c.args.manifest.now) c.args.manifest.now.artifacts c.artifacts.artifact-index) []
    c.artifacts.rows c.artifacts.invariant.0

pub artifacts-preserved : goal.artifacts-preserved
artifacts-preserved c =
    let below : c.artifacts.artifact-index < length c.args.manifest.now.artifacts =
    omega (arith, c.artifacts-test.true, ap length c.as_slice-artifact-items.ensures) in (
      artifact-more (manifest_view c.args.manifest.now) c.args.manifest.now.artifacts c.artifacts.artifact-index
          c.artifact-item.result below
          (c.artifact-item.is ∙ ap (λ items. get_or items c.artifacts.artifact-index c.artifact-item.result)
          c.as_slice-artifact-items.ensures) c.artifacts.rows c.add_artifact.new.rows c.artifacts.invariant.0
          (λ so_far listed. subst (λ (b : Bool). HasAddedOf
          (artifact_inputs (manifest_view c.args.manifest.now) (artifact_view c.artifact-item.result)) so_far
          c.add_artifact.new.rows b) c.if-not-branch.false (c.in_ok-add_artifact.ensures.added so_far listed)),
      c.in_ok-add_artifact.ensures.most ∙ c.artifacts.invariant.1,
      c.in_ok-add_artifact.ensures.held,
    )

pub returns-then-not-branch : goal.returns-then-not-branch
returns-then-not-branch c =
    let below : c.artifacts.artifact-index < length c.args.manifest.now.artifacts =
    omega (arith, c.artifacts-test.true, ap length c.as_slice-artifact-items.ensures) in
    document-past c.args.manifest.now c.args.most c.add_artifact.new.rows
    (c.in_ok-add_artifact.ensures.most ∙ c.artifacts.invariant.1)
    (artifact-past (manifest_view c.args.manifest.now) c.args.manifest.now.artifacts c.artifacts.artifact-index
    c.artifact-item.result below
    (c.artifact-item.is ∙ ap (λ items. get_or items c.artifacts.artifact-index c.artifact-item.result)
    c.as_slice-artifact-items.ensures) c.one_list.ensures c.artifacts.rows c.add_artifact.new.rows
    c.artifacts.invariant.0
    (λ so_far listed. subst (λ (b : Bool). HasAddedOf
    (artifact_inputs (manifest_view c.args.manifest.now) (artifact_view c.artifact-item.result)) so_far
    c.add_artifact.new.rows b) c.if-not-branch.true (c.in_ok-add_artifact.ensures.added so_far listed)))

pub returns : goal.returns
returns c =
    let all : length c.args.manifest.now.artifacts ≤ c.artifacts.artifact-index =
    omega (arith, c.artifacts-test.false, ap length c.as_slice-artifact-items.ensures) in
    document-whole c.args.manifest.now c.args.most c.artifacts.artifact-index c.artifacts.rows (tree c.view.result)
    c.in_ok-text.field-0 all c.artifacts.invariant.1 c.artifacts.invariant.0 c.view.ensures c.in_ok-text.ensures.text
    c.in_ok-text.ensures.reads_back
