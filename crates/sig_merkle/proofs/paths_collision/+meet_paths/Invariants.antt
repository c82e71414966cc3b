use Rattle.std.proofs.Common.{length}
use Rattle.sig_merkle.proofs.paths_collision.+meet_paths.Given as goal

abbrev pub decreases-meet_paths : goal.decreases-meet_paths
decreases-meet_paths l = length l.left_hashes.now
