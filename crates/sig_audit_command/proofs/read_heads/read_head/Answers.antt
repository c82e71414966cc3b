-- The text has no reading.
use Rattle.sig_audit_command.proofs.Heads.{unread}
use Rattle.sig_audit_command.proofs.read_heads.read_head.Goals as goal

pub returns-in-Err-DecodeError : goal.returns-in-Err-DecodeError
returns-in-Err-DecodeError c =
    unread c.args.text.now c.as_str.result.now c.in-Err-DecodeError.field-0-0 c.as_str.ensures
    (rw c.in-Err-DecodeError.field-0-is at c.in-Err-DecodeError.ensures.only)
