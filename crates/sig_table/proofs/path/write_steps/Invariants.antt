use Rattle.std.proofs.Common.{take}
use Rattle.std.specs.Fmt.{HasWritten, IsPlainFormatter}
use Rattle.std.specs.List.{flat_map}
use Rattle.sig_table.specs.PathText.{step_text}
use Rattle.sig_table.proofs.path.write_steps.Given as goal

-- what was written so far are the steps that were passed
abbrev pub invariant-loop-step : goal.invariant-loop-step
invariant-loop-step g l =
    IsPlainFormatter l.initial.f → HasWritten g.W.Write.write_str_gives l.initial.f
    (flat_map step_text (take l.step-index l.steps)) l.f
