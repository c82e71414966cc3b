-- The text has no reading.
use Rattle.std.proofs.Common.{arith, inl, refl}
use Rattle.sig_witness_command.proofs.Marks.{next-place}
use Rattle.sig_witness_command.proofs.Refusals.{unread}
use Rattle.sig_witness_command.proofs.rows.add_text.Goals as goal

pub returns-in-Err-DecodeError-clause-added : goal.returns-in-Err-DecodeError-clause-added
returns-in-Err-DecodeError-clause-added c = λ before listed.
    inl (
      unread c.args.text.now c.as_str.result.now c.in-Err-DecodeError.field-0-0 c.as_str.ensures
          (rw c.in-Err-DecodeError.field-0-is at c.in-Err-DecodeError.ensures.only),
      refl,
      next-place c.args.witness.now c.args.place before c.args.rows.now (omega (arith, c.ranges.place.fits)) listed,
    )
