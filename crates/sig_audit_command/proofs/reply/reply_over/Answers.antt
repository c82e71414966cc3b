-- The reply by how the audit ended.
use Rattle.sig_audit_command.proofs.AuditReplies.{audited-over, fault-over, known, shown-fault}
use Rattle.sig_audit_command.specs.Heads.{accepts}
use Rattle.sig_audit_command.proofs.reply.reply_over.Goals as goal

pub returns-in-Ok : goal.returns-in-Ok
returns-in-Ok c =
    audited-over c.args.request.now c.args.heads.now c.audited_reply.result (known c.in-Ok.size _ c.in-Ok.ensures).0
    c.audited_reply.ensures

pub audited_reply-requires-clause-audited : goal.audited_reply-requires-clause-audited
audited_reply-requires-clause-audited c = (known c.in-Ok.size _ c.in-Ok.ensures).0

pub audited_reply-requires-clause-latest : goal.audited_reply-requires-clause-latest
audited_reply-requires-clause-latest c = (known c.in-Ok.size _ c.in-Ok.ensures).1

pub returns-in-Err : goal.returns-in-Err
returns-in-Err c =
    fault-over c.args.request.now c.args.heads.now c.in-Err.error c.fault_reply.result c.in-Err.ensures
    c.fault_reply.ensures

pub fault_reply-requires : goal.fault_reply-requires
fault_reply-requires c =
    shown-fault (accepts c.args.request.now) c.args.heads.now c.args.request.now.watched c.in-Err.error c.requires.some
    c.requires.under c.in-Err.ensures
