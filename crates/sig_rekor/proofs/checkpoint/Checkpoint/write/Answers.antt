-- What the types of the fields say.
use Rattle.std.proofs.Common.{arith}
use Rattle.sig_rekor.proofs.checkpoint.Checkpoint.write.Goals as goal

pub returns-clause-value : goal.returns-clause-value
returns-clause-value c = record { size = omega arith; hash = omega arith; bytes = c.in_ok-text.ensures.bytes }
