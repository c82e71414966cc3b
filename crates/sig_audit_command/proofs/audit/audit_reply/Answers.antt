-- The reply to what was read.
use Rattle.sig_request.proofs.AuditRequests.{within}
use Rattle.sig_audit_command.proofs.AuditReplies.{its-request, no-request-replied}
use Rattle.sig_audit_command.proofs.audit.audit_reply.Goals as goal

pub returns-in_default : goal.returns-in_default
returns-in_default c =
    no-request-replied c.args.request.now c.in_ok-request.field-0 c.refused.result c.refused.ensures c.in_default.is
    c.in_ok-request.ensures

pub reply_to-reply-requires : goal.reply_to-reply-requires
reply_to-reply-requires c =
    within c.args.request.now c.in-Some.request
    (its-request c.args.request.now c.in_ok-request.field-0 c.in-Some.request c.in-Some.is c.in_ok-request.ensures)

pub returns : goal.returns
returns c =
    c.reply_to-reply.ensures c.args.request.now
    (its-request c.args.request.now c.in_ok-request.field-0 c.in-Some.request c.in-Some.is c.in_ok-request.ensures)
