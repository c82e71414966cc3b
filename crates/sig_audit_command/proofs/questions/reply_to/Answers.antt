-- The reply to a request, by its heads.
use Rattle.std.proofs.Common.{List, subst}
use Rattle.sig_request.specs.declared.audit_request.HeadText.{HeadText}
use Rattle.sig_audit_command.proofs.QuestionReplies.{listing-replied, unread-asked}
use Rattle.sig_audit_command.specs.Heads.{AreHeads, IsFirstUnread}
use Rattle.sig_audit_command.proofs.questions.reply_to.Goals as goal

pub returns-in-Ok : goal.returns-in-Ok
returns-in-Ok c =
    listing-replied c.args.text.now c.args.request.now c.in-Ok.heads c.listing_reply-reply.result c.requires
    (subst (λ (texts : List HeadText). AreHeads texts c.in-Ok.heads) c.as_slice.ensures c.in-Ok.ensures.ok)
    c.listing_reply-reply.ensures

pub returns-in-Err-Checkpoint : goal.returns-in-Err-Checkpoint
returns-in-Err-Checkpoint c =
    unread-asked c.args.text.now c.args.request.now c.in-Err-Checkpoint.place c.refused_at.result c.requires
    (subst (λ (texts : List HeadText). IsFirstUnread texts c.in-Err-Checkpoint.place) c.as_slice.ensures
    (rw c.in-Err-Checkpoint.field-0-is at c.in-Err-Checkpoint.ensures.err))
    c.refused_at.ensures
