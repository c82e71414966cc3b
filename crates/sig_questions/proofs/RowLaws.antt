-- What rows a list has that is put together of others.
use Rattle.std.proofs.Common.{◌≡◌, ◌↔◌, ◌⊎◌, ℕ, zero, suc, ◌<◌, List, [], ◌∷◌, ◌++◌, Some, inl, inr, refl, sym}
use Rattle.std.proofs.Common.{subst, arith}
use Rattle.std.specs.List.{flat_map}
use Rattle.std.specs.Prelude.{Contains, slice_get}
use Rattle.sig_base.proofs.OptionSteps.{some_is}
use Rattle.std.proofs.lemmas.List.Elements.{Contains-append_cases, Contains-append_left, Contains-append_right}

pub empty_has : {X : Type 0} (x : X) → Contains [] x → ⊥
empty_has x has = let lt : has.0 < 0 = has.1 in omega (arith, lt)

pub has_one : {X : Type 0} (y x : X) → Contains (y ∷ []) x ↔ (x ≡ y)
has_one {X = X} y x = (to, (λ same. (0, omega arith, sym same)))
  where
    to : Contains (y ∷ []) x → x ≡ y
    to (zero, lt, is) = sym is
    to (suc k, lt, is) = absurd (omega (arith, lt))

pub has_both : {X : Type 0} (xs ys : List X) (x : X) → Contains (xs ++ ys) x ↔ (Contains xs x ⊎ Contains ys x)
has_both {X = X} xs ys x = (Contains-append_cases xs ys x, back)
  where
    back : Contains xs x ⊎ Contains ys x → Contains (xs ++ ys) x
    back (inl has) = Contains-append_left xs ys x has
    back (inr has) = Contains-append_right xs ys x has

-- where of each list these are the elements
pub has_either : {X P Q : Type 0} (xs ys : List X) (x : X) → Contains xs x ↔ P → Contains ys x ↔ Q
    → Contains (xs ++ ys) x ↔ (P ⊎ Q)
has_either {X = X} {P = P} {Q = Q} xs ys x first second =
    let parts = has_both xs ys x in (
      (λ has. elim (parts.0 has) [
        | inl here ↦ inl (first.0 here)
        | inr there ↦ inr (second.0 there)
      ]),
      (λ of. parts.1 (elim of [
        | inl p ↦ inl (first.1 p)
        | inr q ↦ inr (second.1 q)
      ])),
    )

-- one of the elements gives it
abbrev pub OfSome : {X Y : Type 0} → List X → (X → Y → Type 0) → Y → Type 0
OfSome {X} {Y} xs P y = (index : ℕ) × (x : X) × (slice_get xs index ≡ Some x) × P x y

some_later : {X Y : Type 0} (x : X) (xs : List X) (P : X → Y → Type 0) (y : Y) → OfSome xs P y
    → OfSome (x ∷ xs) P y
some_later x xs P y of = (suc of.0, of.1, of.2, of.3)

each_from : {X Y : Type 0} (f : X → List Y) (xs : List X) (y : Y) → Contains (flat_map f xs) y
    → OfSome xs (λ x z. Contains (f x) z) y
each_from f [] y has = absurd (empty_has y has)
each_from {X = X} {Y = Y} f (x ∷ xs) y has = elim (Contains-append_cases (f x) (flat_map f xs) y has) [
  | inl here ↦ (0, x, refl, here)
  | inr later ↦ some_later x xs (λ v z. Contains (f v) z) y (each_from f xs y later)
]

each_to : {X Y : Type 0} (f : X → List Y) (xs : List X) (y : Y) (index : ℕ) (x : X) → slice_get xs index ≡ Some x
    → Contains (f x) y → Contains (flat_map f xs) y
each_to f [] y index x there has = absurd cc
each_to {X = X} {Y = Y} f (v ∷ xs) y zero x there has =
    Contains-append_left (f v) (flat_map f xs) y
    (subst (λ (z : X). Contains (f z) y) (sym (some_is v x there)) has)
each_to f (v ∷ xs) y (suc index) x there has =
    Contains-append_right (f v) (flat_map f xs) y (each_to f xs y index x there has)

-- rows of each element, where of each these hold
pub has_each : {X Y : Type 0} (f : X → List Y) (P : X → Y → Type 0) (xs : List X) (y : Y)
    → ((x : X) → Contains (f x) y ↔ P x y) → Contains (flat_map f xs) y ↔ OfSome xs P y
has_each f P xs y each = (
  (λ has. let of = each_from f xs y has in (of.0, of.1, of.2, (each of.1).0 of.3)),
  (λ of. each_to f xs y of.0 of.1 of.2 ((each of.1).1 of.3)),
)
