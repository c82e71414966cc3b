-- The bundles are those under the trusted root that is named.
use Rattle.std.proofs.Common.{◌≡◌, ℕ, List, Some, subst, sym}
use Rattle.std.proofs.lemmas.Result.{IfOk-weaker}
use Rattle.sig_base.specs.ByText.{text_lookup}
use Rattle.sig_gate_command.proofs.Walks.{under-root}
use Rattle.sig_gate_command.specs.AskedRoots.{inputs_at}
use Rattle.sig_gate_command.specs.Questions.{artifact_inputs}
use Rattle.sig_gate_command.specs.RowList.{HasAddedOf}
use Rattle.sig_manifest.specs.Artifact.{artifact_view}
use Rattle.sig_manifest.specs.Manifest.{manifest_view}
use Rattle.sig_gate_command.proofs.rows.add_artifact.Goals as goal

pub add_bundles-requires-clause-root : goal.add_bundles-requires-clause-root
add_bundles-requires-clause-root c =
    let named = c.in_ok-hold_root.ensures.held.each c.as_str-name.result.now c.in-Some.root.now (sym c.in-Some.ensures.value) in
    (named.text, c.args.manifest.now.now, named.of_text)

pub returns-clause-added : goal.returns-clause-added
returns-clause-added c = λ before so_far.
    let named = c.in_ok-hold_root.ensures.held.each c.as_str-name.result.now c.in-Some.root.now (sym c.in-Some.ensures.value) in
    let gate = manifest_view c.args.manifest.now in
    let asked = artifact_view c.args.artifact.now in
    IfOk-weaker c.add_bundles.result (HasAddedOf (inputs_at named.text gate.now asked.digest asked.bundles) before
    c.add_bundles.new.rows) (HasAddedOf (artifact_inputs gate asked) before c.add_bundles.new.rows)
    (λ added is. under-root gate asked before c.add_bundles.new.rows added named.text
    (subst (λ (name : List ℕ). text_lookup name gate.roots ≡ Some named.text) c.as_str-name.ensures named.there) is)
    (c.add_bundles.ensures.added named.text gate.now named.of_text before so_far)
