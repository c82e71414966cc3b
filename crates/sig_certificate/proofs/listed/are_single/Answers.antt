-- Sorted by the texts, neighbours decide; sorted back by the places, the list is as it was.
use Rattle.std.proofs.Common.{rules}
use Rattle.std.proofs.lemmas.Fn.{always_returns_same}
use Rattle.std.proofs.lemmas.List.Sorted.{IsPermutation-trans, IsNonDecreasingBy-from_sort_by_key}
use Rattle.sig_certificate.specs.declared.extensions.ExtensionPlaces.{ExtensionPlaces}
use Rattle.sig_certificate.proofs.SortedLaws.{is_before, is_order, neighbours_tell, sorted_back}
use Rattle.sig_certificate.proofs.listed.are_single.Goals as goal

pub returns-clause-single : goal.returns-clause-single
returns-clause-single c =
    let bytes = c.args.bytes.now in
    neighbours_tell bytes c.args.extensions.now c.sort_unstable_by.new.self c.sort_unstable_by.ensures.permutation
    (c.sort_unstable_by.ensures.sorted (is_before bytes) (is_order bytes)
    (always_returns_same _ _ _ (λ a r f k. search rules))) c.is_sorted_by-single.result
    (c.is_sorted_by-single.ensures.cases (is_before bytes) (always_returns_same _ _ _ (λ a r f k. search rules)))

pub returns-clause-same : goal.returns-clause-same
returns-clause-same c =
    sorted_back (λ (e : ExtensionPlaces). e.whole.start) _ _
    (IsPermutation-trans _ _ _ c.sort_unstable_by.ensures.permutation c.sort_unstable_by_key.ensures.permutation)
    c.requires
    (IsNonDecreasingBy-from_sort_by_key
    (λ (e : ExtensionPlaces). e.whole.start) _ c.sort_unstable_by_key.ensures.sorted (λ a r q k. search rules))
