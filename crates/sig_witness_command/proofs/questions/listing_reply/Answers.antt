-- The document fits beside the text, or not.
use Rattle.std.proofs.Common.{List, subst}
use Rattle.sig_reply.proofs.Listings.{listed-made, past-made}
use Rattle.sig_witness_command.proofs.QuestionReplies.{notes-replied}
use Rattle.sig_witness_command.specs.Questions.{witness_rows}
use Rattle.sig_witness_command.specs.Walk.{AreUpdates}
use Rattle.sig_witness_command.specs.declared.request.UpdateText.{UpdateText}
use Rattle.sig_witness_command.proofs.questions.listing_reply.Goals as goal

pub returns-in-Some : goal.returns-in-Some
returns-in-Some c =
    let (updates, are, found) = c.in_ok-document.ensures in
    notes-replied c.args.text.now c.args.request.now c.args.witness.now updates c.listed.result
    (subst (λ (ts : List UpdateText). AreUpdates ts updates) c.as_slice.ensures are)
    (listed-made c.args.text.now (witness_rows c.args.witness.now updates) c.room_beside.result c.listed.result
    c.room_beside.ensures c.in-Some.document c.in_ok-document.field-0 c.in-Some.is found c.listed.ensures)

pub returns-in-None : goal.returns-in-None
returns-in-None c =
    let (updates, are, found) = c.in_ok-document.ensures in
    notes-replied c.args.text.now c.args.request.now c.args.witness.now updates c.refused.result
    (subst (λ (ts : List UpdateText). AreUpdates ts updates) c.as_slice.ensures are)
    (past-made c.args.text.now (witness_rows c.args.witness.now updates) c.room_beside.result c.refused.result
    c.room_beside.ensures c.in_ok-document.field-0 c.in-None.is found c.refused.ensures)
