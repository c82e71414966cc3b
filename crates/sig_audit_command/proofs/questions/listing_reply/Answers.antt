-- The document fits beside the text, or not.
use Rattle.std.proofs.Common.{List, subst}
use Rattle.sig_audit.specs.declared.heads.AuditHead.{AuditHead}
use Rattle.sig_reply.proofs.Listings.{listed-made, past-made}
use Rattle.sig_reply.specs.RowsText.{IsDocumentOf}
use Rattle.sig_audit_command.specs.Questions.{audit_rows}
use Rattle.sig_audit_command.proofs.questions.listing_reply.Goals as goal

pub returns-in-Some : goal.returns-in-Some
returns-in-Some c =
    listed-made c.args.text.now (audit_rows c.args.request.now c.args.heads.now) c.room_beside.result c.listed.result
    c.room_beside.ensures c.in-Some.document c.in_ok-document.field-0 c.in-Some.is
    (subst (λ (heads : List AuditHead). IsDocumentOf c.room_beside.result (audit_rows c.args.request.now heads)
    c.in_ok-document.field-0) c.as_slice.ensures c.in_ok-document.ensures) c.listed.ensures

pub returns-in-None : goal.returns-in-None
returns-in-None c =
    past-made c.args.text.now (audit_rows c.args.request.now c.args.heads.now) c.room_beside.result c.refused.result
    c.room_beside.ensures c.in_ok-document.field-0 c.in-None.is
    (subst (λ (heads : List AuditHead). IsDocumentOf c.room_beside.result (audit_rows c.args.request.now heads)
    c.in_ok-document.field-0) c.as_slice.ensures c.in_ok-document.ensures) c.refused.ensures
