-- The closure compares by a total order.
use Rattle.std.proofs.Common.{rules}
use Rattle.std.specs.Option.{option_cmp}
use Rattle.std.specs.Ordering.{is_lt}
use Rattle.std.specs.Cmp.Lexicographic.{options_total}
use Rattle.std.proofs.lemmas.Fn.{always_returns_same}
use Rattle.std.proofs.lemmas.List.Sorted.{ranks_by}
use Rattle.sig_x509.specs.KeyOrder.{signer_at, signer_order}
use Rattle.sig_x509.proofs.KeyOrders.{signer_order_total}
use Rattle.sig_x509.proofs.key_order.put_in_order.Goals as goal

pub returns-clause-ascends : goal.returns-clause-ascends
returns-clause-ascends c =
    c.sort_unstable_by.ensures.sorted
    (λ one other. is_lt (option_cmp (signer_order c.args.from) (signer_at c.args.anchors.now one)
    (signer_at c.args.anchors.now other)))
    (ranks_by (options_total (signer_order_total c.args.from)) (λ index. signer_at c.args.anchors.now index))
    (always_returns_same _ _ _ (λ a r f' k. search rules))
