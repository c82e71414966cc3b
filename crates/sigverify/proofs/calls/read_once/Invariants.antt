use Rattle.std.proofs.Common.{◌≡◌, length}
use Rattle.std.specs.Io.KnownBytes.{Keeps}
use Rattle.sigverify.specs.Calls.{WereInterrupted}
use Rattle.sigverify.proofs.calls.read_once.Given as goal

-- each call was interrupted, and took nothing
abbrev pub invariant-calls : goal.invariant-calls
invariant-calls g l =
    Keeps (g.R.ReadCalls.remaining l.fn.reader) (g.R.ReadCalls.remaining l.reader) × (length l.buf ≡ length l.fn.buf)
    × WereInterrupted (g.R.ReadCalls.calls l.fn.reader) (g.R.ReadCalls.calls l.reader) l._count
