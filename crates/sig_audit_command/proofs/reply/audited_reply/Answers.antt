-- The lines where every link holds.
use Rattle.sig_audit_command.proofs.AuditReplies.{made-lines}
use Rattle.sig_audit_command.proofs.reply.audited_reply.Goals as goal

pub returns : goal.returns
returns c =
    made-lines c.args.request.now c.args.heads.now c.len.result c.len-2.result c.args.size c.in_ok-second.second
    c.audited_lines.result c.len.ensures c.len-2.ensures c.requires.latest c.in_ok-second.ensures c.audited_lines.ensures
