-- The cut that `split_once` says.
use Rattle.std.proofs.Common.{arith}
use Rattle.sig_rekor.proofs.CutLaws.{cut_at-split_once}
use Rattle.sig_rekor.specs.NoteText.{newline}
use Rattle.sig_witness.proofs.state_lines.cut_line.Goals as goal

pub returns-clause-cut : goal.returns-clause-cut
returns-clause-cut c =
    cut_at-split_once newline c.args.text.now c.split_once.result (omega arith) c.split_once.ensures.cases
