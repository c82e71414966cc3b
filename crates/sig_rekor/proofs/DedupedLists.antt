-- A list that is sorted, and in which each element is there once, passes a test as before.
use Rattle.std.proofs.Common.{◌≡◌, ℕ, Bool, true, false, cond, ◌||◌, List, [], ◌∷◌, Bor, bytes_eq, refl, sym, ap}
use Rattle.std.proofs.Math.Bool.{or_self_left}
use Rattle.std.specs.List.{list_any, dedup, dedup_from}
use Rattle.std.proofs.lemmas.Slice.Eq.{bytes_eq-Decides}

abbrev pub Raw : Type 0
Raw = Bor (List ℕ)

abbrev pub same_raw : Raw → Raw → Bool
same_raw a b = bytes_eq a.now b.now

module _ (test : List ℕ → Bool) where
  abbrev passes : Raw → Bool
  passes raw = test raw.now

  step : (x k : Raw) (xs kept next : List Raw) (b : Bool) → same_raw x k ≡ b
      → list_any passes kept ≡ (passes k || list_any passes xs)
      → list_any passes next ≡ (passes x || list_any passes xs)
      → list_any passes (cond b kept (k ∷ next)) ≡ (passes k || (passes x || list_any passes xs))
  step x k xs kept next true is one other =
      let equal : passes x ≡ passes k = ap test ((bytes_eq-Decides x.now k.now).0 is) in
      rw (one, equal) (sym (or_self_left (passes k) (list_any passes xs)))
  step x k xs kept next false is one other = ap (λ b. passes k || b) other

  any_from : (xs : List Raw) (k : Raw) → list_any passes (dedup_from same_raw k xs) ≡ (passes k || list_any passes xs)
  any_from [] k = refl
  any_from (x ∷ xs) k = step x k xs _ _ (same_raw x k) refl (any_from xs k) (any_from xs x)

  pub any_dedup : (xs : List Raw) → list_any passes (dedup same_raw xs) ≡ list_any passes xs
  any_dedup [] = refl
  any_dedup (x ∷ xs) = any_from xs x
