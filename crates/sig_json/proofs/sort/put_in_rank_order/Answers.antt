-- The closure gives the rank.
use Rattle.std.proofs.Common.{rules}
use Rattle.std.proofs.lemmas.List.Sorted.{answers_always}
use Rattle.sig_json.proofs.sort.put_in_rank_order.Goals as goal

pub returns-clause-stable : goal.returns-clause-stable
returns-clause-stable c =
    c.sort_by_key.ensures.stable (λ key. key.rank) (answers_always _ _ _ (λ f a r g called. search rules))
