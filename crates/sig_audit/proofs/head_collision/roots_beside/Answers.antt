use Rattle.std.proofs.Common.{length}
use Rattle.sig_audit.proofs.Chains.{within-sizes}
use Rattle.sig_audit.proofs.head_collision.roots_beside.Goals as goal

pub roots_of_fronts-requires-clause-within : goal.roots_of_fronts-requires-clause-within
roots_of_fronts-requires-clause-within c =
    rw c.as_slice.ensures.value (within-sizes (length c.args.entries.now) c.args.heads.now c.in_ok-sizes.sizes.items
    c.requires.within c.in_ok-sizes.ensures)
