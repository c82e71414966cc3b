use Rattle.sig_merkle.proofs.recursion.+proof_len.Given as goal

abbrev pub decreases-proof_len : goal.decreases-proof_len
decreases-proof_len l = l.size
