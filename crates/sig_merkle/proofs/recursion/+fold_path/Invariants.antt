use Rattle.std.proofs.Common.{length}
use Rattle.sig_merkle.proofs.recursion.+fold_path.Given as goal

abbrev pub decreases-fold_path : goal.decreases-fold_path
decreases-fold_path g l = length l.proof_hashes.now
