-- Keys that ascend still do when an entry is put among them, in any total order.
use Rattle.std.proofs.Common.{◌≡◌, List, [], ◌∷◌, refl, ap, ◌∙◌}
use Rattle.std.specs.BTreeMap.{insert_entry}
use Rattle.std.specs.Cmp.{IsTotalOrder}
use Rattle.std.specs.List.{AllByRecursion}
use Rattle.std.specs.List.Sorted.{IsStrictlySortedBy}
use Rattle.std.specs.Map.{keys_of}
use Rattle.std.specs.Ordering.{match_ordering, ordering_reverse}
use Rattle.std.specs.declared.cmp.Ordering.{Ordering}
use Rattle.std.specs.declared.cmp.Ordering.TheVariants.{Less, Equal, Greater}

module _ {K : Type 0} {R : K → K → Ordering} (total : IsTotalOrder R) where
  pub below_all : (k : K) (e : K) (ks : List K) → R k e ≡ Less → AllByRecursion (λ y. R e y ≡ Less) ks
      → AllByRecursion (λ y. R k y ≡ Less) ks
  below_all k e [] below all = tt
  below_all k e (x ∷ ks) below all = (total.trans k e x below all.0, below_all k e ks below all.1)

module _ {K V : Type 0} (R : K → K → Ordering) where
  pub all_keys : (P : K → Type 0) (es : List (K × V)) (k : K) (v : V) → AllByRecursion P (keys_of es) → P k
      → AllByRecursion P (keys_of (insert_entry R es k v))
  all_keys P [] k v all p = (p, tt)
  all_keys P (e ∷ es) k v all p = by (R k e.0) (all_keys P es k v all.1 p) where
    by : (o : Ordering) → AllByRecursion P (keys_of (insert_entry R es k v))
        → AllByRecursion P (keys_of (match_ordering o ((k, v) ∷ e ∷ es) ((e.0, v) ∷ es) (e ∷ insert_entry R es k v)))
    by Less rest = (p, all)
    by Equal rest = all
    by Greater rest = (all.0, rest)

  pub ascend-insert_entry : IsTotalOrder R → (es : List (K × V)) (k : K) (v : V) → IsStrictlySortedBy R (keys_of es)
      → IsStrictlySortedBy R (keys_of (insert_entry R es k v))
  unfolding IsStrictlySortedBy
  ascend-insert_entry total [] k v up = (tt, tt)
  ascend-insert_entry total (e ∷ es) k v up = by (R k e.0) refl (ascend-insert_entry total es k v up.1) where
    by : (o : Ordering) → R k e.0 ≡ o → IsStrictlySortedBy R (keys_of (insert_entry R es k v))
        → IsStrictlySortedBy R (keys_of (match_ordering o ((k, v) ∷ e ∷ es) ((e.0, v) ∷ es)
        (e ∷ insert_entry R es k v)))
    by Less is rest = ((is, below_all total k e.0 (keys_of es) is up.0), up)
    by Equal is rest = up
    by Greater is rest =
        let above : R e.0 k ≡ Less = total.antisymm e.0 k ∙ ap ordering_reverse is in
        (all_keys (λ y. R e.0 y ≡ Less) es k v up.0 above, rest)
