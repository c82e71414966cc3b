-- A text with a third point has more than three parts.
use Rattle.std.proofs.Common.{sym}
use Rattle.sig_token.proofs.Parts.{too_many}
use Rattle.sig_token.proofs.compact.payload.Goals as goal

pub returns-in-Some-cut-2 : goal.returns-in-Some-cut-2
returns-in-Some-cut-2 c =
    sym (too_many c.args.text.now c.in-Some.field-0-0.now c.in-Some.after_header.now c.in-Some-cut.payload.now
    c.in-Some-cut.signature.now c.in-Some-cut-2.field-0.0.now c.in-Some-cut-2.field-0.1.now c.in-Some.ensures
    c.in-Some-cut.ensures c.in-Some-cut-2.ensures)
