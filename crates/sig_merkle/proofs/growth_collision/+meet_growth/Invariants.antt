use Rattle.std.proofs.Common.{length}
use Rattle.sig_merkle.proofs.growth_collision.+meet_growth.Given as goal

abbrev pub decreases-meet_growth : goal.decreases-meet_growth
decreases-meet_growth l = length l.proof_hashes.now
