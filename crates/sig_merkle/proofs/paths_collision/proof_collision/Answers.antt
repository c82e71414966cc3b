use Rattle.sig_merkle.proofs.PathMeetings.{left_count, right_count}
use Rattle.sig_merkle.proofs.paths_collision.proof_collision.Goals as goal

pub meet_paths-requires-clause-left_count : goal.meet_paths-requires-clause-left_count
meet_paths-requires-clause-left_count c = left_count _ _ _ _ _ _ c.requires

pub meet_paths-requires-clause-right_count : goal.meet_paths-requires-clause-right_count
meet_paths-requires-clause-right_count c = right_count _ _ _ _ _ _ c.requires
