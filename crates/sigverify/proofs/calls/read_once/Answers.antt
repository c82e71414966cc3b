-- All calls that may be made were interrupted.
use Rattle.std.proofs.Common.{Some, ap, arith}
use Rattle.std.specs.IoError.{error_kind}
use Rattle.sigverify.proofs.RepeatedCalls.{all-interrupted}
use Rattle.sigverify.proofs.calls.read_once.Goals as goal

pub returns-clause-calls : goal.returns-clause-calls
returns-clause-calls g c =
    all-interrupted (g.R.ReadCalls.calls c.args.reader.now) (g.R.ReadCalls.calls c.calls.reader) c.calls._count (Some (error_kind c.from.result))
    c.calls.invariant.2 (omega (arith, c.calls-test.false, c.calls.auto._count-end)) (ap Some c.from.ensures)
