use Rattle.std.proofs.Common.{◌<◌, length, drop}
use Rattle.std.specs.List.{AllByRecursion}
use Rattle.sig_audit.specs.Fronts.{IsOfFront}
use Rattle.sig_audit.proofs.head_collision.collision_beside.Given as goal

-- the heads from this one on are of the list's first entries
abbrev pub invariant-heads : goal.invariant-heads
invariant-heads l = record {
  below : l.place < length l.heads;
  fronts : AllByRecursion (IsOfFront l.entries) (drop l.place l.heads);
}

abbrev pub decreases-heads : goal.decreases-heads
decreases-heads l = l.place
