-- A walk over names that keeps the identity of each, and texts that are seen through references.
use Rattle.std.proofs.Common.{◌≡◌, ℕ, List, [], ◌∷◌, ◌++◌, Option, None, refl, sym, ap, ◌∙◌}
use Rattle.std.specs.Prelude.{map}
use Rattle.std.specs.List.{cons_option, filter_map, flat_map, join_by}
use Rattle.std.proofs.lemmas.List.{append-nil}

-- what was kept, and then what is kept of what is left, is all
module _ {X Y : Type 0} (keep : X → Option Y) (front all : List Y) (left : List X)
    (is : front ++ filter_map keep left ≡ all) where
  pub kept_passes : (x : X) (rest : List X) → left ≡ x ∷ rest → keep x ≡ None → front ++ filter_map keep rest ≡ all
  kept_passes x rest first none =
      sym (ap (λ (w : List X). front ++ filter_map keep w) first
      ∙ ap (λ (o : Option Y). front ++ cons_option o (filter_map keep rest)) none) ∙ is

  pub kept_ends : left ≡ [] → front ≡ all
  kept_ends none = sym (append-nil front) ∙ sym (ap (λ (w : List X). front ++ filter_map keep w) none) ∙ is

-- ---- texts that are seen through references

flat_map_seen : {A : Type 0} (separator : List ℕ) (seen : A → List ℕ) (xs : List A)
    → flat_map (λ x. separator ++ seen x) xs ≡ flat_map (λ t. separator ++ t) (map seen xs)
flat_map_seen separator seen [] = refl
flat_map_seen separator seen (x ∷ xs) =
    ap (λ (w : List ℕ). (separator ++ seen x) ++ w) (flat_map_seen separator seen xs)

pub join_by_seen : {A : Type 0} (separator : List ℕ) (seen : A → List ℕ) (xs : List A)
    → join_by seen separator xs ≡ join_by (λ t. t) separator (map seen xs)
join_by_seen separator seen [] = refl
join_by_seen separator seen (x ∷ xs) = ap (λ (w : List ℕ). seen x ++ w) (flat_map_seen separator seen xs)
