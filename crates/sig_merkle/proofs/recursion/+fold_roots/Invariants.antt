use Rattle.std.proofs.Common.{length}
use Rattle.sig_merkle.proofs.recursion.+fold_roots.Given as goal

abbrev pub decreases-fold_roots : goal.decreases-fold_roots
decreases-fold_roots g l = length l.proof_hashes.now
