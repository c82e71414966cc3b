-- The reply by where the request starts.
use Rattle.sig_witness_command.proofs.QuestionReplies.{listing-replied, start-lines, stopped-asked}
use Rattle.sig_witness_command.proofs.Replies.{its-start, no-its-start}
use Rattle.sig_witness_command.proofs.questions.reply_to.Goals as goal

pub returns-in_default : goal.returns-in_default
returns-in_default c =
    stopped-asked c.args.text.now c.args.request.now c.refused.result c.requires
    (no-its-start c.args.request.now c.in_ok-witness.field-0 c.in_default.is c.in_ok-witness.ensures) c.refused.ensures

pub listing_reply-reply-requires : goal.listing_reply-reply-requires
listing_reply-reply-requires c =
    start-lines c.args.request.now c.in-Some.witness
    (its-start c.args.request.now c.in_ok-witness.field-0 c.in-Some.witness c.in-Some.is c.in_ok-witness.ensures)

pub returns : goal.returns
returns c =
    listing-replied c.args.text.now c.args.request.now c.in-Some.witness c.listing_reply-reply.result c.requires
    (its-start c.args.request.now c.in_ok-witness.field-0 c.in-Some.witness c.in-Some.is c.in_ok-witness.ensures)
    c.listing_reply-reply.ensures
