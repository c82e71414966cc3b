-- `parse` reads the sizes of the format.
use Rattle.std.proofs.Common.{ap, inr}
use Rattle.sig_rekor.specs.Reading.{as_error}
use Rattle.sig_rekor.proofs.Notes.{tree_size_of-numeral, tree_size_of-none}
use Rattle.sig_rekor.proofs.note.read_size.Goals as goal

pub returns-in-Ok : goal.returns-in-Ok
returns-in-Ok c =
    ap as_error (tree_size_of-numeral c.args.line.now c.in-Ok.size c.in-Ok.ensures.value.0.0 c.in-Ok.ensures.value.0.1)

pub returns-in-Err : goal.returns-in-Err
returns-in-Err c = inr (ap as_error (tree_size_of-none c.args.line.now c.in-Err.ensures.value.0))
