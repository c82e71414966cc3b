use Rattle.std.proofs.Common.{length}
use Rattle.sig_merkle.proofs.fronts.+write_roots.Given as goal

abbrev pub decreases-write_roots : goal.decreases-write_roots
decreases-write_roots g l = length l.entries.now
