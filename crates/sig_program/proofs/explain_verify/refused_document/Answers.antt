-- The tree of the object's document.
use Rattle.std.proofs.Common.{subst, sym}
use Rattle.sig_explain_verify.specs.Inputs.{Inputs}
use Rattle.sig_explain_verify.specs.RefusedTree.{IsRefusedTree}
use Rattle.sig_json.specs.Writing.{members}
use Rattle.sig_json.specs.Data.{object}
use Rattle.sig_program.specs.Explanation.{shown_inputs}
use Rattle.sig_program.proofs.explain_verify.refused_document.Goals as goal

pub returns : goal.returns
returns c =
    let shown = subst (λ (i : Inputs). IsRefusedTree i c.args.error.now (object (members c.in_ok-object.object)))
    c.shown_inputs.ensures c.in_ok-object.ensures in
    subst (IsRefusedTree (shown_inputs c.args.request.now) c.args.error.now) (sym c.into_document.ensures) shown
