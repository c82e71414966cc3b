-- The result for one more bundle, and for all.
use Rattle.std.proofs.Common.{◌∙◌, ℤ, Some, ap, subst, sym}
use Rattle.std.proofs.Math.Facts.{to_z-of_z}
use Rattle.sig_explain_gate.proofs.FoundArtifacts.{all-found, walked-more}
use Rattle.sig_explain_gate.specs.Roots.{IsReadRoot}
use Rattle.sig_gate_command.specs.Request.{parts_of}
use Rattle.sig_json.specs.Tree.{document_tree}
use Rattle.sig_manifest.specs.Artifact.{artifact_view}
use Rattle.sig_explain_gate.proofs.artifact.find_each.Goals as goal

pub find_under-requires-clause-root : goal.find_under-requires-clause-root
find_under-requires-clause-root c =
    subst (λ (n : ℤ). IsReadRoot c.args.text.now n c.args.root.now) (sym (to_z-of_z c.ranges.now ∙ c.requires.time))
    c.requires.read

pub bundles-preserved : goal.bundles-preserved
bundles-preserved c =
    walked-more (parts_of c.args.request.now) (artifact_view c.args.artifact.now) c.args.text.now c.policy.result.now
    c.requires.root (c.requires.policy ∙ ap Some (sym c.policy.ensures)) _ c.as_slice-bundles.result.now c.bundles.bundle-index
    c.bundle-item.result c.as_slice.result.now c.in_ok-found.found.verdict (document_tree c.in_ok-found.found.document)
    c.bundles.verdicts c.push.new.self (document_tree c.bundles.list) (document_tree c.push-in-bundles.new.self)
    (to_z-of_z c.ranges.now ∙ c.requires.time) c.bundles-test.true c.bundle-item.is c.as_slice.ensures c.in_ok-found.ensures c.in_ok-push.ensures.ok c.in_ok-push-2.ensures.ok
    c.bundles.invariant

pub returns : goal.returns
returns c =
    all-found (parts_of c.args.request.now) (artifact_view c.args.artifact.now) c.args.artifact.now.bundles
    c.as_slice-bundles.result.now c.bundles.bundle-index (record { verdicts = c.bundles.verdicts; list = c.bundles.list })
    c.as_slice-bundles.ensures c.bundles-test.false c.bundles.invariant
