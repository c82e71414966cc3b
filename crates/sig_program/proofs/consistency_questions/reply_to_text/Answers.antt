-- The reply to what was read.
use Rattle.sig_program.proofs.Replies.{its-request, unread-replied}
use Rattle.sig_request.specs.ConsistencyRequest.{consistency_request}
use Rattle.sig_program.specs.declared.command.Command.TheVariants.{ConsistencyQuestions}
use Rattle.sig_program.proofs.consistency_questions.reply_to_text.Goals as goal

pub returns-in_default : goal.returns-in_default
returns-in_default c =
    unread-replied ConsistencyQuestions consistency_request c.args.request.now c.in_ok-read.field-0 c.refused.result
    (λ holds. (holds.0, holds.1)) c.refused.ensures c.in_default.is c.in_ok-read.ensures

pub reply_to-reply-requires : goal.reply_to-reply-requires
reply_to-reply-requires c =
    its-request consistency_request c.args.request.now c.in_ok-read.field-0 c.in-Some.read c.in-Some.is c.in_ok-read.ensures
