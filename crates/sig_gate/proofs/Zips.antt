-- Two lists whose elements are related one by one, where of the first a view is asked.
use Rattle.std.proofs.Common.{◌≡◌, ℕ, zero, suc, ◌<◌, ◌≤◌, List, [], ◌∷◌, length, map, take, get_or, refl, sym, subst, arith}
use Rattle.std.proofs.lemmas.List.{take_all}
use Rattle.std.specs.List.{AllByRecursion, AllZip}

module _ {A B C : Type 0} (view : A → B) (R : B → C → Type 0) where
  pub zip-viewed : (xs : List A) (ys : List C) → AllZip (λ x y. R (view x) y) xs ys → AllZip R (map view xs) ys
  zip-viewed [] [] are = tt
  zip-viewed [] (y ∷ ys) are = absurd are
  zip-viewed (x ∷ xs) [] are = absurd are
  zip-viewed (x ∷ xs) (y ∷ ys) are = (are.0, zip-viewed xs ys are.1)

pub zip-all : {A B : Type 0} (R : A → B → Type 0) (xs : List A) (ys : List B) (i : ℕ) → length xs ≤ i
    → AllZip R (take i xs) ys → AllZip R xs ys
zip-all {A} R xs ys i end are = subst (λ (front : List A). AllZip R front ys) (take_all i xs end) are

pub zip-length : {A B : Type 0} (R : A → B → Type 0) (xs : List A) (ys : List B) → AllZip R xs ys
    → length ys ≡ length xs
zip-length R [] [] are = refl
zip-length R [] (y ∷ ys) are = absurd are
zip-length R (x ∷ xs) [] are = absurd are
zip-length R (x ∷ xs) (y ∷ ys) are = let rest = zip-length R xs ys are.1 in omega (arith, rest)

pub zip-none : {A B : Type 0} (R : A → B → Type 0) (xs : List A) (ys : List B) → length xs ≡ 0 → ys ≡ []
    → AllZip R xs ys
zip-none R [] ys none empty = rw empty tt
zip-none R (x ∷ xs) ys none empty = absurd (omega (arith, none))

-- what holds of the view of each element holds of that of the one at an index
pub each-viewed : {A B : Type 0} (view : A → B) (P : B → Type 0) (xs : List A) (i : ℕ) (x : A) → i < length xs
    → x ≡ get_or xs i x → AllByRecursion P (map view xs) → P (view x)
each-viewed view P [] i x below is each = absurd (omega (arith, below))
each-viewed {A} view P (y ∷ xs) zero x below is each = subst (λ (z : A). P (view z)) (sym is) each.0
each-viewed view P (y ∷ xs) (suc i) x below is each = each-viewed view P xs i x (omega (arith, below)) is each.1
