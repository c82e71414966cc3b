use Rattle.std.proofs.Common.{take, Ok}
use Rattle.std.specs.List.{flat_map}
use Rattle.sig_timestamp.specs.RingKey.{point_at}
use Rattle.sig_questions.specs.Written.{AddsRows, point_under}
use Rattle.sig_questions.proofs.points.push_points.Given as goal

-- the rows so far are written
abbrev pub invariant-signers : goal.invariant-signers
invariant-signers l =
    AddsRows l.fn.rows (flat_map (point_under (point_at l.keyring) l.leaf) (take l.signer-index l.leaf.signers.items))
    (Ok tt) l.rows
