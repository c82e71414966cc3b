use Rattle.std.proofs.Common.{length}
use Rattle.sig_merkle.proofs.front.+roots_in.Given as goal

abbrev pub decreases-roots_in : goal.decreases-roots_in
decreases-roots_in g l = length l.entries.now
