-- The document fits beside the text, or not.
use Rattle.sig_reply.proofs.Listings.{listed-made, past-made}
use Rattle.sig_program.specs.HeadQuestions.{head_rows}
use Rattle.sig_program.proofs.head_questions.listing_reply.Goals as goal

pub returns-in-Some : goal.returns-in-Some
returns-in-Some c =
    listed-made c.args.text.now (head_rows c.args.head.now c.args.checkpoint.now) c.room_beside.result c.listed.result
    c.room_beside.ensures c.in-Some.document c.in_ok-document.field-0 c.in-Some.is c.in_ok-document.ensures c.listed.ensures

pub returns-in-None : goal.returns-in-None
returns-in-None c =
    past-made c.args.text.now (head_rows c.args.head.now c.args.checkpoint.now) c.room_beside.result c.refused.result
    c.room_beside.ensures c.in_ok-document.field-0 c.in-None.is c.in_ok-document.ensures c.refused.ensures
