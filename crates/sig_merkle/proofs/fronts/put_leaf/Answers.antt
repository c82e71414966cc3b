use Rattle.std.proofs.Common.{[], refl}
use Rattle.sig_merkle.proofs.FrontLists.{put-more}
use Rattle.sig_merkle.proofs.fronts.put_leaf.Goals as goal

pub roots-preserved : goal.roots-preserved
roots-preserved c =
    put-more _ _ _ _ [] _ c.roots.invariant c.roots-test.true c.roots.auto.roots refl
