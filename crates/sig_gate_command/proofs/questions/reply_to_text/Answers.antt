-- The reply to what was read.
use Rattle.sig_gate_command.proofs.QuestionReplies.{no-manifest-asked}
use Rattle.sig_gate_command.proofs.Replies.{its-manifest}
use Rattle.sig_gate_command.proofs.questions.reply_to_text.Goals as goal

pub listing_reply-reply-requires : goal.listing_reply-reply-requires
listing_reply-reply-requires c =
    its-manifest c.args.request.now c.in_ok-read.field-0 c.in-Some.read c.in-Some.is c.in_ok-read.ensures

pub returns-in_default : goal.returns-in_default
returns-in_default c =
    no-manifest-asked c.args.request.now c.in_ok-read.field-0 c.refused.result c.refused.ensures c.in_default.is
    c.in_ok-read.ensures
