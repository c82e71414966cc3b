-- The reply to a request, by the signatures of its checkpoint.
use Rattle.sig_program.proofs.HeadQuestionReplies.{consistency-questions-replied}
use Rattle.sig_program.proofs.consistency_questions.reply_to.Goals as goal

pub returns : goal.returns
returns c =
    consistency-questions-replied c.args.text.now c.args.request.now c.head_listing.result c.requires c.head_listing.ensures
