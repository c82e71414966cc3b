-- The explanation by how the audit ended.
use Rattle.sig_audit_command.proofs.AuditReplies.{known}
use Rattle.sig_explain_audit.proofs.Explanations.{of-audit-fault, of-audited}
use Rattle.sig_explain_audit.proofs.explanation.audit_document.Goals as goal

pub returns-in-Ok : goal.returns-in-Ok
returns-in-Ok c =
    of-audited c.args.request.now c.args.heads.now c.audited_document.result (known _ _ c.in-Ok.ensures).0
    c.audited_document.ensures

pub returns-in-Err : goal.returns-in-Err
returns-in-Err c =
    of-audit-fault c.args.request.now c.args.heads.now c.in-Err.error c.fault_document.result c.in-Err.ensures
    c.fault_document.ensures.tree c.fault_document.ensures.known
