use denote.Shadow.{shadow}
use denote.Text.{Utf8}
use Rattle.std.proofs.Common.{length}
use Rattle.sig_witness.proofs.StateLines.{IsSplitting}
use Rattle.sig_witness.proofs.state_lines.split_lines.Given as goal

-- the lines so far, and what is left of the text
abbrev pub invariant-lines : goal.invariant-lines
invariant-lines l = IsSplitting l.fn.text l.all.items l.rest × shadow (Utf8 l.rest)

abbrev pub decreases-lines : goal.decreases-lines
decreases-lines l = length l.rest
