use Rattle.std.proofs.Common.{take, Ok}
use Rattle.std.specs.List.{flat_map}
use Rattle.sig_questions.specs.Written.{AddsRows, rows_of_signed}
use Rattle.sig_questions.proofs.paths.push_further.Given as goal

-- the rows so far are written
abbrev pub invariant-further : goal.invariant-further
invariant-further l = AddsRows l.fn.rows (flat_map rows_of_signed (take l.signed-index l.further)) (Ok tt) l.rows
