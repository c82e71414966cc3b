-- The reply to a request, by what is listed.
use Rattle.std.proofs.Common.{Err, subst}
use Rattle.sig_questions.specs.Questions.{IsDecided}
use Rattle.sig_questions.specs.declared.listing.NoQuestions.{NoQuestions}
use Rattle.sig_program.proofs.VerifyQuestionReplies.{all-schemes, listed-replied, past-replied, refused-replied}
use Rattle.sig_program.specs.VerifyLink.{inputs}
use Rattle.sig_program.proofs.verify_questions.reply_to.Goals as goal

pub listing_reply-reply-requires : goal.listing_reply-reply-requires
listing_reply-reply-requires c = all-schemes c.schemes.ensures c.args.request.now c.in-Ok.rows c.in-Ok.ensures.decided.1

pub returns-in-Ok : goal.returns-in-Ok
returns-in-Ok c =
    listed-replied c.args.text.now c.args.request.now c.room_beside.result c.listing_reply-reply.result c.requires
    c.room_beside.ensures c.in-Ok.rows c.one_list.ensures c.few.ensures
    c.listing_reply-reply.ensures c.in-Ok.ensures.decided c.in-Ok.ensures.asked

pub returns-in-Err-Link : goal.returns-in-Err-Link
returns-in-Err-Link c =
    refused-replied c.args.text.now c.args.request.now c.room_beside.result c.refused.result c.requires
    c.room_beside.ensures c.in-Err-Link.link c.refused.ensures
    (subst (λ (e : NoQuestions). IsDecided (inputs c.args.request.now) c.room_beside.result (Err e))
    c.in-Err-Link.field-0-is c.in-Err-Link.ensures.decided)

pub returns-in-Err-TooLong : goal.returns-in-Err-TooLong
returns-in-Err-TooLong c =
    past-replied c.args.text.now c.args.request.now c.room_beside.result c.refused-in-Err-TooLong.result c.requires
    c.room_beside.ensures c.schemes.ensures c.refused-in-Err-TooLong.ensures
    (subst (λ (e : NoQuestions). IsDecided (inputs c.args.request.now) c.room_beside.result (Err e))
    c.in-Err-TooLong.field-0-is c.in-Err-TooLong.ensures.decided)
