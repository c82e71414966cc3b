use Rattle.std.proofs.Common.{arith}
use Rattle.sig_merkle.proofs.FrontLists.{put-more}
use Rattle.sig_merkle.proofs.fronts.put_left.Goals as goal

pub roots-preserved : goal.roots-preserved
roots-preserved g c = record {
  put =
      put-more _ _ _ _ _ _ c.roots.invariant.put c.roots-test.true c.roots.auto.roots c.hash_step.ensures.value;
  taken = omega (arith, c.roots.invariant.taken, c.hash_step.ensures.steps);
}
