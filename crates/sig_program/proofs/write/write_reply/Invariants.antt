use Rattle.std.proofs.Common.{◌-◌, ◌≤◌, take, length}
use Rattle.std.specs.Io.KnownBytes.{Appends}
use Rattle.sig_program.specs.Run.{HandsRests}
use Rattle.sig_program.proofs.write.write_reply.Given as goal

-- the front of the bytes was written, and each piece was all that was left
abbrev pub invariant-turns : goal.invariant-turns
invariant-turns g l =
    HandsRests (g.K.Sink.handed l.fn.sink) (g.K.Sink.handed l.sink) l.bytes
    × Appends (g.K.Sink.taken l.fn.sink) (g.K.Sink.taken l.sink) (take l.done l.bytes)
    × (g.K.Sink.faults l.fn.sink ≤ g.K.Sink.faults l.sink) × (l.done ≤ length l.bytes)

abbrev pub decreases-turns : goal.decreases-turns
decreases-turns g l = length l.bytes - l.done
