-- The reply to what was read.
use Rattle.std.proofs.Common.{subst}
use Rattle.sig_program.proofs.Replies.{its-request}
use Rattle.sig_request.specs.ReadFrom.{IsReadFrom}
use Rattle.sig_request.specs.ConsistencyRequest.{consistency_request}
use Rattle.sig_program.proofs.explain_consistency.explain_consistency.Goals as goal

pub explain_fault-requires : goal.explain_fault-requires
explain_fault-requires c =
    subst (IsReadFrom consistency_request c.args.text.now) c.in_default.is c.in_ok-request.ensures

pub returns : goal.returns
returns c =
    c.explain_request-reply.ensures c.args.text.now
    (its-request consistency_request c.args.text.now c.in_ok-request.field-0 c.in-Some.request c.in-Some.is
    c.in_ok-request.ensures)
