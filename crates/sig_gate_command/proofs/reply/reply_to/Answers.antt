-- The report of the verdicts.
use Rattle.sig_gate_command.proofs.Replies.{report-made}
use Rattle.sig_gate_command.proofs.reply.reply_to.Goals as goal

pub returns : goal.returns
returns c =
    report-made c.args.request.now c.in_ok-verdicts.verdicts c.report_reply-reply.result c.in_ok-verdicts.ensures.gate
    c.report_reply-reply.ensures
