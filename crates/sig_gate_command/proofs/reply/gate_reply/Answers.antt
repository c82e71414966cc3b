-- The reply to what was read.
use Rattle.sig_gate_command.proofs.Replies.{its-manifest, manifest-replied, no-manifest-replied}
use Rattle.sig_gate_command.proofs.reply.gate_reply.Goals as goal

pub reply_to-reply-requires : goal.reply_to-reply-requires
reply_to-reply-requires c =
    (its-manifest c.args.request.now c.in_ok-request.field-0 c.in-Some.request c.in-Some.is c.in_ok-request.ensures).is.named

pub returns-in_default : goal.returns-in_default
returns-in_default c =
    no-manifest-replied c.args.request.now c.in_ok-request.field-0 c.refused.result c.refused.ensures c.in_default.is
    c.in_ok-request.ensures

pub returns : goal.returns
returns c =
    manifest-replied c.args.request.now c.in-Some.request c.reply_to-reply.result
    (its-manifest c.args.request.now c.in_ok-request.field-0 c.in-Some.request c.in-Some.is c.in_ok-request.ensures)
    c.reply_to-reply.ensures
