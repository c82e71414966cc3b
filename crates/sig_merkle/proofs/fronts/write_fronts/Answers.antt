use Rattle.std.proofs.Common.{arith, ◌+◌}
use Rattle.sig_merkle.proofs.FrontLists.{all-fronts, none-counts, fewer-steps}
use Rattle.sig_merkle.proofs.fronts.write_fronts.Goals as goal

pub write_roots-requires-clause-ascending : goal.write_roots-requires-clause-ascending
write_roots-requires-clause-ascending g c =
    rw (c.split_at.ensures.back) (none-counts _ _ _ c.count_within-none.ensures.value c.requires.ascending
    c.requires.within).0

pub write_roots-requires-clause-within : goal.write_roots-requires-clause-within
write_roots-requires-clause-within g c =
    rw (c.split_at.ensures.back, c.as_slice.ensures) (none-counts _ _ _ c.count_within-none.ensures.value
    c.requires.ascending c.requires.within).1

pub returns-clause-roots : goal.returns-clause-roots
returns-clause-roots g c =
    all-fronts _ _ _ _ _ _ c.count_within-none.ensures.value c.requires.empty c.split_at_mut-of_some.ensures.front
    (rw (c.split_at.ensures.back, c.as_slice.ensures) at c.write_roots.ensures.roots)

pub returns-clause-steps : goal.returns-clause-steps
returns-clause-steps g c =
    fewer-steps _ _ _ _ _ (omega (arith, c.split_at.ensures.back_len)) (rw c.as_slice.ensures at c.write_roots.ensures.steps)
