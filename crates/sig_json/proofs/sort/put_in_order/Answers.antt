-- The closure compares by a total order.
use Rattle.std.proofs.Common.{rules}
use Rattle.std.proofs.lemmas.Fn.{always_returns_same}
use Rattle.std.proofs.lemmas.List.Sorted.{ranks_by, IsPermutation-trans}
use Rattle.sig_json.proofs.SortedMembers.{key_order_total, stable_by_both}
use Rattle.sig_json.specs.Only.{names_of}
use Rattle.sig_json.specs.Sorting.{comes_first}
use Rattle.sig_json.proofs.sort.put_in_order.Goals as goal

pub returns-clause-moved : goal.returns-clause-moved
returns-clause-moved c =
    IsPermutation-trans _ _ _ c.in_ok-put_in_rank_order.ensures.moved c.in_ok-sort_by.ensures.permutation

pub returns-clause-stable : goal.returns-clause-stable
returns-clause-stable c =
    stable_by_both (names_of c.args.names.now) _ _ _ c.in_ok-put_in_rank_order.ensures.stable
    (c.in_ok-sort_by.ensures.stable (comes_first (names_of c.args.names.now))
    (ranks_by (key_order_total (names_of c.args.names.now)) (λ key. key))
    (always_returns_same _ _ _ (λ a r f' k. search rules)))
