-- The document fits beside the text, or there is none.
use Rattle.sig_gate_command.proofs.QuestionReplies.{document-listed, document-past}
use Rattle.sig_gate_command.specs.Request.{parts_of}
use Rattle.sig_gate_command.proofs.questions.listing_reply.Goals as goal

pub returns-in-Some : goal.returns-in-Some
returns-in-Some c =
    document-listed c.one_list.ensures c.args.text.now (parts_of c.args.request.now) c.room_beside.result
    c.room_beside.ensures c.requires c.in-Some.document c.in_ok-document.field-0 c.listed.result c.in-Some.is
    c.in_ok-document.ensures c.listed.ensures

pub returns-in-None : goal.returns-in-None
returns-in-None c =
    document-past c.one_list.ensures c.args.text.now (parts_of c.args.request.now) c.room_beside.result
    c.room_beside.ensures c.requires c.in_ok-document.field-0 c.refused.result c.in-None.is c.in_ok-document.ensures
    c.refused.ensures
