-- The sort moves the indices, and puts them in order.
use Rattle.std.proofs.Common.{arith}
use Rattle.std.proofs.lemmas.List.Sorted.{Contains-permutation}
use Rattle.sig_base.proofs.RowOrders.{covers_more}
use Rattle.sig_base.proofs.part_order.order_by.Goals as goal

pub loop-index-preserved : goal.loop-index-preserved
loop-index-preserved c = covers_more c.loop-index.index _ _ c.in_ok-push.ensures.items c.loop-index.invariant

pub returns : goal.returns
returns c = record {
  covers =
      λ index below. Contains-permutation _ _ index c.put_in_order.ensures.moved
      (c.loop-index.invariant index (omega arith));
  ascends = c.put_in_order.ensures.ascends;
}
