use Rattle.std.proofs.Common.{length}
use Rattle.sig_merkle.proofs.tree.+tree_in.Given as goal

abbrev pub decreases-tree_in : goal.decreases-tree_in
decreases-tree_in g l = length l.entries.now
