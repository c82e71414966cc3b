-- The reply by the checkpoint of the tree head.
use Rattle.sig_program.proofs.HeadQuestionReplies.{checked-listing, unchecked-listing}
use Rattle.sig_program.proofs.head_questions.head_listing.Goals as goal

pub returns-in_default : goal.returns-in_default
returns-in_default c =
    unchecked-listing c.args.text.now c.args.head.now c.in_ok-checkpoint.field-0 c.refused.result c.refused.ensures
    c.in_default.is c.in_ok-checkpoint.ensures

pub returns : goal.returns
returns c =
    checked-listing c.args.text.now c.args.head.now c.in_ok-checkpoint.field-0 c.in-Some.checkpoint
    c.listing_reply-reply.result c.listing_reply-reply.ensures c.in-Some.is c.in_ok-checkpoint.ensures
