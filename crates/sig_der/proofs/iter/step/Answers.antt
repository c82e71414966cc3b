use Rattle.std.proofs.Common.{length, sym, ◌∙◌}
use Rattle.std.proofs.lemmas.Bool.{eqb-false}
use Rattle.sig_der.proofs.ChildElements.{children_nil, children_ok, children_err_first}
use Rattle.sig_der.proofs.iter.step.Goals as goal

pub returns-then-is_empty : goal.returns-then-is_empty
returns-then-is_empty c = children_nil c.args.rest.now (sym c.if-is_empty.true ∙ c.is_empty.ensures)

pub returns-in-Ok : goal.returns-in-Ok
returns-in-Ok c = children_ok c.args.rest.now _ c.in-Ok.ensures.exact

pub returns-in-Err : goal.returns-in-Err
returns-in-Err c =
    children_err_first c.args.rest.now _
    (eqb-false (length c.args.rest.now) 0 (sym c.is_empty.ensures ∙ c.if-is_empty.false)) c.in-Err.ensures.exact
