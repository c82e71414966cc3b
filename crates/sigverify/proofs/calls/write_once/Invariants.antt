use Rattle.std.specs.Io.KnownBytes.{Keeps}
use Rattle.sigverify.specs.Calls.{WereInterrupted}
use Rattle.sigverify.proofs.calls.write_once.Given as goal

-- each call was interrupted, and wrote nothing
abbrev pub invariant-calls : goal.invariant-calls
invariant-calls g l =
    Keeps (g.W.WriteCalls.contents l.fn.writer) (g.W.WriteCalls.contents l.writer)
    × WereInterrupted (g.W.WriteCalls.calls l.fn.writer) (g.W.WriteCalls.calls l.writer) l._count
