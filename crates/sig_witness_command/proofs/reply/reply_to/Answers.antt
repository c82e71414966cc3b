-- The reply by where the request starts.
use Rattle.sig_witness_command.proofs.Replies.{its-start, replied-from, stopped}
use Rattle.sig_witness_command.proofs.reply.reply_to.Goals as goal

pub returns-in_default : goal.returns-in_default
returns-in_default c =
    stopped c.args.request.now c.in_ok-witness.field-0 c.refused.result c.in_default.is c.in_ok-witness.ensures
    c.refused.ensures

pub returns : goal.returns
returns c =
    replied-from c.args.request.now c.in-Some.witness c.reply_from-reply.result
    (its-start c.args.request.now c.in_ok-witness.field-0 c.in-Some.witness c.in-Some.is c.in_ok-witness.ensures)
    c.reply_from-reply.ensures
