-- The explanation of a request, by its heads.
use Rattle.std.proofs.Common.{List, subst}
use Rattle.sig_request.specs.declared.audit_request.HeadText.{HeadText}
use Rattle.sig_audit_command.specs.Heads.{AreHeads, IsFirstUnread}
use Rattle.sig_explain_audit.proofs.Explanations.{of-heads, of-unread}
use Rattle.sig_explain_audit.proofs.explanation.request_document.Goals as goal

pub returns-in-Ok : goal.returns-in-Ok
returns-in-Ok c =
    of-heads c.args.request.now c.in-Ok.heads c.audit_document-document.result
    (subst (λ (texts : List HeadText). AreHeads texts c.in-Ok.heads) c.as_slice.ensures c.in-Ok.ensures.ok)
    c.audit_document-document.ensures

pub returns-in-Err-Checkpoint : goal.returns-in-Err-Checkpoint
returns-in-Err-Checkpoint c =
    of-unread c.args.request.now c.in-Err-Checkpoint.place c.unread_document.result
    (subst (λ (texts : List HeadText). IsFirstUnread texts c.in-Err-Checkpoint.place) c.as_slice.ensures
    (rw c.in-Err-Checkpoint.field-0-is at c.in-Err-Checkpoint.ensures.err))
    c.unread_document.ensures
