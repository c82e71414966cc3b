-- The text has no reading.
use Rattle.std.proofs.Common.{inl, refl}
use Rattle.sig_witness_command.proofs.Refusals.{unread}
use Rattle.sig_witness_command.proofs.updating.update_by_text.Goals as goal

pub returns-in-Err-DecodeError : goal.returns-in-Err-DecodeError
returns-in-Err-DecodeError c =
    let none = unread c.args.text.now c.as_str.result.now c.in-Err-DecodeError.field-0-0 c.as_str.ensures
    (rw c.in-Err-DecodeError.field-0-is at c.in-Err-DecodeError.ensures.only) in
    (none, inl (none, refl))
