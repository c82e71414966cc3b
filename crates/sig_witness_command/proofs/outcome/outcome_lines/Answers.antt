-- The lines so far, and the next one.
use Rattle.std.proofs.Common.{arith, string_bytes}
use Rattle.sig_witness_command.proofs.Outcomes.{lines-more}
use Rattle.sig_witness_command.proofs.outcome.outcome_lines.Goals as goal

pub outcomes-preserved : goal.outcomes-preserved
outcomes-preserved c =
    lines-more c.args.outcomes.now c.outcomes.outcome-index _ (string_bytes c.outcomes.lines)
    (string_bytes c.push_line.new.lines) (omega (arith, c.outcomes-test.true)) c.outcomes.invariant
    c.in_ok-push_line.ensures
