use Rattle.std.proofs.Common.{◌-◌, ◌≤◌, vec_len}
use Rattle.std.specs.Io.KnownBytes.{Consumes}
use Rattle.sig_request.proofs.read.read_request.Given as goal

-- the bytes so far are those that the source gave
abbrev pub invariant-turns : goal.invariant-turns
invariant-turns g l =
    Consumes (g.S.Source.left l.fn.source) (g.S.Source.left l.source) l.bytes.items
    × (g.S.Source.faults l.fn.source ≤ g.S.Source.faults l.source) × (vec_len l.bytes ≤ 16777217)

abbrev pub decreases-turns : goal.decreases-turns
decreases-turns g l = 16777217 - vec_len l.bytes
