-- Elements of a list, by their indices.
use Rattle.std.proofs.Common.{◌≡◌, ◌⊎◌, ltb, ℕ, zero, suc, ◌<◌, ◌≤◌, Bool, true, false, ◌||◌, not, cond, List, []}
use Rattle.std.proofs.Common.{◌∷◌, length, get_or, Option, Some, None, slice_get, inl, inr, refl, sym, ap, subst, ◌∙◌}
use Rattle.std.proofs.Common.{arith}
use Rattle.std.specs.Prelude.{Contains, is_some, position}
use Rattle.std.specs.List.{AllByRecursion, list_any, position_or_len}
use Rattle.std.proofs.lemmas.Bool.{both_ways, cases_order, or_cases, or_right, ltb-false, not-true}
use Rattle.std.proofs.lemmas.List.Quantifiers.{position-Some}
use Rattle.std.proofs.lemmas.List.Sums.{prefix_len_passes}
use Rattle.std.proofs.lemmas.Option.{slice_get_within, slice_get-get_or, get_or_from_slice_get}

pub contains_at : {X : Type 0} (xs : List X) (k : ℕ) (x : X) → slice_get xs k ≡ Some x → Contains xs x
contains_at xs k x got = (k, slice_get_within xs k x got, get_or_from_slice_get xs k x x got)

pub at_contained : {X : Type 0} (xs : List X) (x : X) (has : Contains xs x) → slice_get xs has.0 ≡ Some x
at_contained xs x has = slice_get-get_or xs has.0 x has.1 ∙ ap (λ (y : _). Some y) has.2

pub all_at : {X : Type 0} (P : X → Type 0) (xs : List X) → AllByRecursion P xs → (k : ℕ) (x : X)
    → slice_get xs k ≡ Some x → P x
all_at P [] all k x got = absurd cc
all_at P (y ∷ xs) all zero x got = let same : y ≡ x = cc in subst P same all.0
all_at P (y ∷ xs) all (suc k) x got = all_at P xs all.1 k x got

pub all_from : {X : Type 0} (P : X → Type 0) (xs : List X) → ((k : ℕ) (x : X) → slice_get xs k ≡ Some x → P x)
    → AllByRecursion P xs
all_from P [] at = tt
all_from P (y ∷ xs) at = (at zero y refl, all_from P xs (λ k x got. at (suc k) x got))

-- ---- those that pass

pub any_from : {X : Type 0} (p : X → Bool) (xs : List X) → list_any p xs ≡ true
    → (k : ℕ) × (x : X) × (slice_get xs k ≡ Some x) × (p x ≡ true)
any_from p [] is = absurd cc
any_from p (y ∷ xs) is = by (λ there. any_from p xs there) (or_cases (p y) (list_any p xs) is)
  where
    by : (list_any p xs ≡ true → (k : ℕ) × (x : _) × (slice_get xs k ≡ Some x) × (p x ≡ true))
        → (p y ≡ true) ⊎ (list_any p xs ≡ true)
        → (k : ℕ) × (x : _) × (slice_get (y ∷ xs) k ≡ Some x) × (p x ≡ true)
    by rest (inl here) = (zero, y, refl, here)
    by rest (inr there) = let found = rest there in (suc found.0, found.1, found.2, found.3)

pub any_is : {X : Type 0} (p : X → Bool) (xs : List X) (k : ℕ) (x : X) → slice_get xs k ≡ Some x → p x ≡ true
    → list_any p xs ≡ true
any_is p [] k x got is = absurd cc
any_is p (y ∷ xs) zero x got is =
    let same : y ≡ x = cc in ap (λ (b : Bool). b || list_any p xs) (ap p same ∙ is)
any_is p (y ∷ xs) (suc k) x got is = or_right (p y) (list_any p xs) (any_is p xs k x got is)

-- ---- the first that passes

module _ {X : Type 0} (p : X → Bool) where
  pub at_position : (xs : List X) (i : ℕ) → position p xs ≡ Some i → (x : X) × (slice_get xs i ≡ Some x) × (p x ≡ true)
  at_position [] i is = absurd cc
  at_position (y ∷ xs) i is =
      let found = position-Some p (y ∷ xs) i y is in
      (get_or (y ∷ xs) i y, slice_get-get_or (y ∷ xs) i y found.0, found.1)

  pub before_position : (xs : List X) (i : ℕ) → position p xs ≡ Some i → (k : ℕ) (x : X) → k < i
      → slice_get xs k ≡ Some x → p x ≡ false
  before_position xs i is k x lt got =
      sym (ap p (get_or_from_slice_get xs k x x got)) ∙ (position-Some p xs i x is).2 k lt

  pub no_position : (xs : List X) → position p xs ≡ None → (k : ℕ) (x : X) → slice_get xs k ≡ Some x → p x ≡ false
  no_position xs is k x got =
      let within = slice_get_within xs k x got in
      let all : length xs ≤ position_or_len p xs =
      ltb-false (position_or_len p xs) (length xs)
      (missed (position_or_len p xs) (length xs) is) in
      sym (ap p (get_or_from_slice_get xs k x x got))
      ∙ not-true (p (get_or xs k x)) (prefix_len_passes (λ (y : X). not (p y)) xs k x (omega (arith, within, all)))
    where
      missed : (a n : ℕ) → cond (ltb a n) (Some a) None ≡ None → ltb a n ≡ false
      missed a n e = by_cases (ltb a n) e
        where
          by_cases : (b : Bool) → cond b (Some a) None ≡ None → b ≡ false
          by_cases true e = absurd cc
          by_cases false e = refl

  -- the one that passes, where none before it does
  pub position_at : (xs : List X) (i : ℕ) (x : X) → slice_get xs i ≡ Some x → p x ≡ true
      → ((k : ℕ) (y : X) → k < i → slice_get xs k ≡ Some y → p y ≡ false) → position p xs ≡ Some i
  position_at xs i x there is before = by (position p xs) refl
    where
      by : (o : Option ℕ) → position p xs ≡ o → position p xs ≡ Some i
      by None e = absurd (both_ways (p x) (no_position xs e i x there) is)
      by (Some j) e = by_order (cases_order i j)
        where
          found : (y : X) × (slice_get xs j ≡ Some y) × (p y ≡ true)
          found = at_position xs j e

          by_order : (i ≡ j) ⊎ ((i < j) ⊎ (j < i)) → position p xs ≡ Some i
          by_order (inl same) = e ∙ ap (λ (k : ℕ). Some k) (sym same)
          by_order (inr (inl less)) = absurd (both_ways (p x) (before_position xs j e i x less there) is)
          by_order (inr (inr more)) = absurd (both_ways (p found.0) (before j found.0 more found.1) found.2)

  -- where none passes
  pub position_nowhere : (xs : List X) → ((k : ℕ) (y : X) → slice_get xs k ≡ Some y → p y ≡ false)
      → position p xs ≡ None
  position_nowhere xs none = by (position p xs) refl
    where
      by : (o : Option ℕ) → position p xs ≡ o → position p xs ≡ None
      by None e = e
      by (Some j) e =
          let found = at_position xs j e in absurd (both_ways (p found.0) (none j found.0 found.1) found.2)

  -- there is a first if and only if some pass
  pub some_position : (xs : List X) → is_some (position p xs) ≡ list_any p xs
  some_position xs = by (position p xs) refl
    where
      by : (o : Option ℕ) → position p xs ≡ o → is_some (position p xs) ≡ list_any p xs
      by (Some j) e =
          let found = at_position xs j e in
          ap (λ (o : Option ℕ). is_some o) e ∙ sym (any_is p xs j found.0 found.1 found.2)
      by None e = ap (λ (o : Option ℕ). is_some o) e ∙ none (list_any p xs) refl
        where
          none : (b : Bool) → list_any p xs ≡ b → false ≡ list_any p xs
          none false f = sym f
          none true f =
              let found = any_from p xs f in
              absurd (both_ways (p found.1) (no_position xs e found.0 found.1 found.2) found.3)

-- the same test has the same first
pub same_position : {X : Type 0} (p q : X → Bool) (xs : List X) → ((x : X) → p x ≡ q x) → position p xs ≡ position q xs
same_position {X = X} p q xs same = by (position q xs) refl
  where
    by : (o : Option ℕ) → position q xs ≡ o → position p xs ≡ position q xs
    by None e = position_nowhere p xs (λ k x there. same x ∙ no_position q xs e k x there) ∙ sym e
    by (Some i) e =
        let found = at_position q xs i e in
        position_at p xs i found.0 found.1 (same found.0 ∙ found.2)
        (λ k x lt there. same x ∙ before_position q xs i e k x lt there) ∙ sym e
