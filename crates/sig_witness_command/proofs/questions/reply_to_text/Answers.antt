-- The reply to what was read.
use Rattle.sig_witness_command.proofs.QuestionReplies.{no-request-asked}
use Rattle.sig_witness_command.proofs.Replies.{its-request}
use Rattle.sig_witness_command.proofs.questions.reply_to_text.Goals as goal

pub returns-in_default : goal.returns-in_default
returns-in_default c =
    no-request-asked c.args.request.now c.in_ok-read.field-0 c.refused.result c.refused.ensures c.in_default.is
    c.in_ok-read.ensures

pub reply_to-reply-requires : goal.reply_to-reply-requires
reply_to-reply-requires c =
    its-request c.args.request.now c.in_ok-read.field-0 c.in-Some.read c.in-Some.is c.in_ok-read.ensures
