use Rattle.sig_merkle.proofs.recursion.+growth_len.Given as goal

abbrev pub decreases-growth_len : goal.decreases-growth_len
decreases-growth_len l = l.size
