use Rattle.sig_der.proofs.Ranges.{placed_is}
use Rattle.sig_der.proofs.Takings.{take_any_ok, take_any_err}
use Rattle.sig_der.proofs.reader.Reader.any.Goals as goal

pub returns-in-Err-clause-cut : goal.returns-in-Err-clause-cut
returns-in-Err-clause-cut c = take_any_err _ _ (rw c.rest.ensures at c.in-Err.ensures.exact)

pub returns-in-Ok-clause-cut : goal.returns-in-Ok-clause-cut
returns-in-Ok-clause-cut c =
    let r = c.args.self in
    take_any_ok _ _ _ (rw c.rest.ensures at c.in-Ok.ensures.exact)
    (placed_is r.bytes.now r.at r.end r.ordered r.below c.in-Ok.element.tag _ _ _
    (rw c.rest.ensures at c.in-Ok.ensures.found))
