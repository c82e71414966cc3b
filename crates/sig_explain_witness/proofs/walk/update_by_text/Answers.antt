-- The text has no reading.
use Rattle.sig_explain_witness.proofs.Explanations.{of-unread}
use Rattle.sig_witness_command.proofs.Refusals.{unread}
use Rattle.sig_explain_witness.proofs.walk.update_by_text.Goals as goal

pub returns-in-Err-DecodeError : goal.returns-in-Err-DecodeError
returns-in-Err-DecodeError c =
    of-unread c.args.accepted.now (c.args.witness.now, c.args.left.now) c.args.text.now c.unread_document.result
    (unread c.args.text.now c.as_str.result.now c.in-Err-DecodeError.field-0-0 c.as_str.ensures
    (rw c.in-Err-DecodeError.field-0-is at c.in-Err-DecodeError.ensures.only))
    c.unread_document.ensures
