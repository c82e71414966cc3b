use Rattle.std.proofs.Common.{rules, ◌≢◌, take}
use Rattle.sig_merkle.specs.Root.{root}
use Rattle.sig_merkle.proofs.GrowthMeetings.{growth_some, growth_count, same_front}
use Rattle.sig_merkle.proofs.growth_collision.consistency_collision_in.Goals as goal

pub meet_growth-requires-clause-some : goal.meet_growth-requires-clause-some
meet_growth-requires-clause-some c =
    let apart : root (take c.args.old_size c.args.entries.now) ≢ c.args.old_root.now = search rules in
    growth_some _ _ _ _ c.requires apart

pub meet_growth-requires-clause-count : goal.meet_growth-requires-clause-count
meet_growth-requires-clause-count c =
    let apart : root (take c.args.old_size c.args.entries.now) ≢ c.args.old_root.now = search rules in
    growth_count _ _ _ _ c.requires apart

pub unreachable-requires : goal.unreachable-requires
unreachable-requires c =
    let apart : root (take c.args.old_size c.args.entries.now) ≢ c.args.old_root.now = search rules in
    same_front _ _ _ _ _ _ c.requires apart (rw c.in-Hashed.is at c.in_ok-found.ensures)
