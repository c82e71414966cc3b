-- The closure compares by a total order.
use Rattle.std.proofs.Common.{rules}
use Rattle.std.specs.Ordering.{is_lt}
use Rattle.std.specs.Cmp.Lexicographic.{options_total}
use Rattle.std.proofs.lemmas.Cmp.{nat_list_cmp_total}
use Rattle.std.proofs.lemmas.Fn.{always_returns_same}
use Rattle.std.proofs.lemmas.List.Sorted.{ranks_by}
use Rattle.sig_base.specs.PartOrder.{order_at, part_at}
use Rattle.sig_base.proofs.part_order.put_in_order.Goals as goal

pub returns-clause-ascends : goal.returns-clause-ascends
returns-clause-ascends c =
    c.sort_unstable_by.ensures.sorted (λ one other. is_lt (order_at c.args.part c.args.rows.now one other))
    (ranks_by (options_total nat_list_cmp_total) (λ index. part_at c.args.part c.args.rows.now index))
    (always_returns_same _ _ _ (λ a r f' k. search rules))
