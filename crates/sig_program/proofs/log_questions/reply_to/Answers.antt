-- The reply to a request, by the signatures of its checkpoint.
use Rattle.sig_program.proofs.HeadQuestionReplies.{log-questions-replied}
use Rattle.sig_program.proofs.log_questions.reply_to.Goals as goal

pub returns : goal.returns
returns c =
    log-questions-replied c.args.text.now c.args.request.now c.head_listing.result c.requires c.head_listing.ensures
