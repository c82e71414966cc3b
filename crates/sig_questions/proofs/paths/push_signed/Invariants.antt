use Rattle.std.proofs.Common.{take, Ok}
use Rattle.std.specs.List.{flat_map}
use Rattle.sig_questions.specs.Written.{AddsRows, row_under}
use Rattle.sig_questions.proofs.paths.push_signed.Given as goal

-- the rows so far are written
abbrev pub invariant-signers : goal.invariant-signers
invariant-signers l =
    AddsRows l.fn.rows (flat_map (row_under l.signed) (take l.signer-index l.signed.signers.items)) (Ok tt) l.rows
