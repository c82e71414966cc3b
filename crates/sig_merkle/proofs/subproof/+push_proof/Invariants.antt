use Rattle.std.proofs.Common.{length}
use Rattle.sig_merkle.proofs.subproof.+push_proof.Given as goal

abbrev pub decreases-push_proof : goal.decreases-push_proof
decreases-push_proof l = length l.entries.now
