-- A list of what is seen of another's elements: a test of what is seen is one of the elements.
use Rattle.std.proofs.Common.{◌≡◌, ◌||◌, Bool, List, [], ◌∷◌, map, refl, ap}
use Rattle.std.specs.List.{list_any}

pub list_any_seen : {A B : Type 0} (test : B → Bool) (seen : A → B) (xs : List A)
    → list_any test (map seen xs) ≡ list_any (λ x. test (seen x)) xs
list_any_seen test seen [] = refl
list_any_seen test seen (x ∷ xs) = ap (λ (b : Bool). test (seen x) || b) (list_any_seen test seen xs)
