use Rattle.sig_witness.proofs.StateReads.{IsReading}
use Rattle.sig_witness.proofs.decode.read_logs.Given as goal

-- the logs of the lines so far
abbrev pub invariant-logs : goal.invariant-logs
invariant-logs l = IsReading l.fn.all l.lines-index l.logs l.before
