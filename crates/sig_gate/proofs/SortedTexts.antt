-- Texts that are sorted, and of which each is kept once.
use Rattle.std.proofs.Common.{◌≡◌, ℕ, true, false, List, [], ◌∷◌, map, Ordering, Less, sym, ap, ◌∙◌, inl, inr}
use Rattle.std.proofs.lemmas.Cmp.{nat_list_cmp_total}
use Rattle.std.proofs.lemmas.List.Kept.{IsStrictlySortedBy-dedup}
use Rattle.std.proofs.lemmas.Map.Text.{is_eq-slice_cmp}
use Rattle.std.specs.Cmp.{IsTotalOrder}
use Rattle.std.specs.Cmp.Lexicographic.{bytes_decides, slice_cmp}
use Rattle.std.specs.List.{AllByRecursion, dedup}
use Rattle.std.specs.List.Sorted.{IsSorted, IsStrictlySortedBy}
use Rattle.std.specs.Ordering.{eq_by_cmp, is_eq, nat_cmp}
use Rattle.std.specs.Prelude.{bytes_eq, Contains}
use Rattle.sig_gate.proofs.DifferentTexts.{among-first, none-among}
use Rattle.sig_gate.specs.RuleHolds.{AreDifferent}
use Rattle.sig_rekor.proofs.DedupedLists.{Raw, same_raw}

abbrev pub order : Raw → Raw → Ordering
order a b = slice_cmp nat_cmp a.now b.now

abbrev pub seen : List Raw → List (List ℕ)
seen raws = map (λ raw. raw.now) raws

order_total : IsTotalOrder order
order_total = record {
  antisymm = λ x y. nat_list_cmp_total.antisymm x.now y.now;
  trans = λ x y z. nat_list_cmp_total.trans x.now y.now z.now;
  congr = λ x y z. nat_list_cmp_total.congr x.now y.now z.now;
}

ties : (x y : Raw) → same_raw x y ≡ eq_by_cmp order x y
ties x y = sym (is_eq-slice_cmp x.now y.now)

not_below : (a b : List ℕ) → a ≡ b → slice_cmp nat_cmp b a ≡ Less → ⊥
not_below a b same below =
    let apart : bytes_eq b a ≡ false = sym (is_eq-slice_cmp b a) ∙ ap is_eq below in
    let equal : bytes_eq b a ≡ true = (bytes_decides b a).1 (sym same) in
    absurd cc

none_same : (raw : Raw) (raws : List Raw) → AllByRecursion (λ y. order raw y ≡ Less) raws
    → ¬ Contains (seen raws) raw.now
none_same raw [] below among = none-among raw.now among
none_same raw (y ∷ raws) below among = elim (among-first y.now (seen raws) raw.now among) [
  | inl e ↦ not_below y.now raw.now e below.0
  | inr rest ↦ none_same raw raws below.1 rest
]

apart : (raws : List Raw) → IsStrictlySortedBy order raws → AreDifferent (seen raws)
unfolding IsStrictlySortedBy
apart [] up = tt
apart (raw ∷ raws) up = (none_same raw raws up.0, apart raws up.1)

-- of sorted texts, each kept once, no two are the same
pub apart-sorted : (raws : List Raw) → IsSorted order raws → AreDifferent (seen (dedup same_raw raws))
apart-sorted raws up = apart (dedup same_raw raws) (IsStrictlySortedBy-dedup order_total ties raws up)
