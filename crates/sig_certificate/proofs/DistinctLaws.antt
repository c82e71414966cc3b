-- Texts that differ pairwise: what the test of a list says.
use Rattle.std.proofs.Common.{◌≡◌, ℕ, true, false, not, List, [], ◌∷◌, refl}
use Rattle.std.specs.Prelude.{bytes_eq}
use Rattle.std.specs.List.{AllByRecursion, IsDistinct, list_any}
use Rattle.std.proofs.lemmas.Bool.{and_parts, and_from, or_parts, or_from, not_from_false, not-true}
use Rattle.std.proofs.lemmas.Map.Keys.{IsDistinct-head, IsDistinct-tail}
use Rattle.sig_certificate.specs.Lookups.{are_distinct}

abbrev pub Texts : Type 0
Texts = List (List ℕ)

none_equal : (x : List ℕ) (xs : Texts) → list_any (bytes_eq x) xs ≡ false
    → AllByRecursion (λ y. bytes_eq x y ≡ false) xs
none_equal x [] is = tt
none_equal x (y ∷ xs) is =
    let parts = or_parts (bytes_eq x y) (list_any (bytes_eq x) xs) is in (parts.0, none_equal x xs parts.1)

equal_none : (x : List ℕ) (xs : Texts) → AllByRecursion (λ y. bytes_eq x y ≡ false) xs
    → list_any (bytes_eq x) xs ≡ false
equal_none x [] is = refl
equal_none x (y ∷ xs) is = or_from (bytes_eq x y) (list_any (bytes_eq x) xs) is.0 (equal_none x xs is.1)

pub distinct_from : (xs : Texts) → are_distinct xs ≡ true → IsDistinct bytes_eq xs
unfolding IsDistinct
distinct_from [] is = tt
distinct_from (x ∷ xs) is =
    let parts = and_parts (not (list_any (bytes_eq x) xs)) (are_distinct xs) is in
    (none_equal x xs (not-true (list_any (bytes_eq x) xs) parts.0), distinct_from xs parts.1)

pub distinct_is : (xs : Texts) → IsDistinct bytes_eq xs → are_distinct xs ≡ true
distinct_is [] is = refl
distinct_is (x ∷ xs) is =
    and_from (not (list_any (bytes_eq x) xs)) (are_distinct xs)
    (not_from_false (list_any (bytes_eq x) xs) (equal_none x xs (IsDistinct-head bytes_eq x xs is)))
    (distinct_is xs (IsDistinct-tail bytes_eq x xs is))
