-- The tree of the object's document.
use Rattle.std.proofs.Common.{subst, sym}
use Rattle.sig_explain_verify.specs.Inputs.{Inputs}
use Rattle.sig_explain_verify.specs.Verified.{IsVerifiedTree}
use Rattle.sig_json.specs.Writing.{members}
use Rattle.sig_json.specs.Data.{object}
use Rattle.sig_program.specs.Explanation.{shown_inputs}
use Rattle.sig_program.proofs.explain_verify.verified_document.Goals as goal

pub returns : goal.returns
returns c =
    let shown = subst (λ (i : Inputs). IsVerifiedTree i c.args.offline.now (object (members c.in_ok-object.object)))
    c.shown_inputs.ensures c.in_ok-object.ensures in
    subst (IsVerifiedTree (shown_inputs c.args.request.now) c.args.offline.now) (sym c.into_document.ensures) shown
