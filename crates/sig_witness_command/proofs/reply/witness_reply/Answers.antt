-- The reply to what was read.
use Rattle.sig_witness_command.proofs.Replies.{its-request, no-request-replied, request-replied}
use Rattle.sig_witness_command.proofs.reply.witness_reply.Goals as goal

pub returns-in_default : goal.returns-in_default
returns-in_default c =
    no-request-replied c.args.request.now c.in_ok-request.field-0 c.refused.result c.refused.ensures c.in_default.is
    c.in_ok-request.ensures

pub returns : goal.returns
returns c =
    request-replied c.args.request.now c.in-Some.request c.reply_to-reply.result
    (its-request c.args.request.now c.in_ok-request.field-0 c.in-Some.request c.in-Some.is c.in_ok-request.ensures)
    c.reply_to-reply.ensures
