use Rattle.std.proofs.Common.{length}
use Rattle.sig_merkle.proofs.entry_collision.+meet_entry.Given as goal

abbrev pub decreases-meet_entry : goal.decreases-meet_entry
decreases-meet_entry l = length l.proof_hashes.now
