-- The lines so far.
use Rattle.std.proofs.Common.{◌≡◌, string_bytes, take}
use Rattle.sig_witness_command.specs.Outcome.{outcome_lines}
use Rattle.sig_witness_command.proofs.outcome.outcome_lines.Given as goal

abbrev pub invariant-outcomes : goal.invariant-outcomes
invariant-outcomes l = string_bytes l.lines ≡ outcome_lines (take l.outcome-index l.outcomes)
