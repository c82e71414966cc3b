-- The reply to a request, by its heads.
use Rattle.std.proofs.Common.{List, subst}
use Rattle.sig_request.specs.declared.audit_request.HeadText.{HeadText}
use Rattle.sig_audit_command.proofs.AuditReplies.{all-under, over-replied, some-heads, unread-replied}
use Rattle.sig_audit_command.specs.Heads.{AreHeads, IsFirstUnread}
use Rattle.sig_audit_command.proofs.audit.reply_to.Goals as goal

pub returns-in-Ok : goal.returns-in-Ok
returns-in-Ok c = λ text is.
    over-replied text c.args.request.now c.in-Ok.heads c.reply_over-reply.result is
    (subst (λ (texts : List HeadText). AreHeads texts c.in-Ok.heads) c.as_slice.ensures c.in-Ok.ensures.ok)
    c.reply_over-reply.ensures

pub reply_over-reply-requires-clause-some : goal.reply_over-reply-requires-clause-some
reply_over-reply-requires-clause-some c =
    some-heads c.args.request.now.heads c.in-Ok.heads c.args.request.now.watched c.requires
    (subst (λ (texts : List HeadText). AreHeads texts c.in-Ok.heads) c.as_slice.ensures c.in-Ok.ensures.ok)

pub reply_over-reply-requires-clause-under : goal.reply_over-reply-requires-clause-under
reply_over-reply-requires-clause-under c =
    all-under c.args.request.now.heads c.in-Ok.heads c.args.request.now.watched c.requires
    (subst (λ (texts : List HeadText). AreHeads texts c.in-Ok.heads) c.as_slice.ensures c.in-Ok.ensures.ok)

pub returns-in-Err-Checkpoint : goal.returns-in-Err-Checkpoint
returns-in-Err-Checkpoint c = λ text is.
    unread-replied text c.args.request.now c.in-Err-Checkpoint.place c.refused_at.result is
    (subst (λ (texts : List HeadText). IsFirstUnread texts c.in-Err-Checkpoint.place) c.as_slice.ensures
    (rw c.in-Err-Checkpoint.field-0-is at c.in-Err-Checkpoint.ensures.err))
    c.refused_at.ensures
