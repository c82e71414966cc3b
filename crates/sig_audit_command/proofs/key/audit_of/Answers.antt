use Rattle.sig_audit_command.proofs.Keys.{under-key}
use Rattle.sig_audit_command.proofs.key.audit_of.Goals as goal

pub returns : goal.returns
returns c =
    under-key c.args.request.now c.args.heads.now c.in_ok-key.key _ c.audit-answer.result c.in_ok-key.ensures.scheme
    c.in_ok-key.ensures.info c.audit-answer.ensures.found
