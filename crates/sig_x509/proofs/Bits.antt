-- Rows of bits.
use Rattle.std.proofs.Common.{◌≡◌, ◌⊎◌, ℕ, zero, suc, ◌+◌, ◌<◌, ◌≤◌, Bool, true, false, ◌&&◌, ◌||◌, List, [], ◌∷◌, ◌++◌}
use Rattle.std.proofs.Common.{length, map, Option, Some, slice_get, inl, inr, refl, sym, ap, subst, ◌∙◌, arith}
use Rattle.std.specs.Prelude.{option_map}
use Rattle.std.specs.List.{list_any}
use Rattle.std.proofs.lemmas.Bool.{and_parts, and_from, or_cases, or_right}
use Rattle.std.proofs.lemmas.List.{length-append, map-append}
use Rattle.std.proofs.lemmas.Option.{slice_get-map, slice_get_within, get_or_from_slice_get}
use Rattle.sig_x509.proofs.Elements.{any_from, any_is}
use Rattle.sig_x509.proofs.RowLaws.{left_at, right_at, same_bool}
use Rattle.sig_x509.specs.Possible.{any_below, any_both, below, bit}

less_or_same : (a b : ℕ) → a ≤ b → (a < b) ⊎ (a ≡ b)
less_or_same zero zero le = inr refl
less_or_same zero (suc b) le = inl (omega arith)
less_or_same (suc a) zero le = absurd (omega (arith, le))
less_or_same (suc a) (suc b) le = elim (less_or_same a b (omega (arith, le))) [
  | inl less ↦ inl (omega (arith, less))
  | inr same ↦ inr (ap (λ (m : ℕ). suc m) same)
]

pub below_from : (n : ℕ) (p : ℕ → Bool) → any_below n p ≡ true → (k : ℕ) × (k < n) × (p k ≡ true)
unfolding any_below
below_from zero p is = absurd cc
below_from (suc n) p is = by (λ there. below_from n p there) (or_cases _ _ is)
  where
    by : (any_below n p ≡ true → (k : ℕ) × (k < n) × (p k ≡ true)) → (any_below n p ≡ true) ⊎ (p n ≡ true)
        → (k : ℕ) × (k < suc n) × (p k ≡ true)
    by rest (inl there) = let found = rest there in (found.0, omega (arith, found.1), found.2)
    by rest (inr here) = (n, omega arith, here)

pub below_is : (n : ℕ) (p : ℕ → Bool) (k : ℕ) → k < n → p k ≡ true → any_below n p ≡ true
unfolding any_below
below_is zero p k lt is = absurd (omega (arith, lt))
below_is (suc n) p k lt is = by (less_or_same k n (omega (arith, lt))) (λ less. below_is n p k less is)
  where
    by : (k < n) ⊎ (k ≡ n) → (k < n → any_below n p ≡ true) → any_below (suc n) p ≡ true
    by (inl less) rest = ap (λ (b : Bool). b || p n) (rest less)
    by (inr same) rest = or_right (any_below n p) (p n) (subst (λ (m : ℕ). p m ≡ true) same is)

-- a loop over the places
pub none_below : (p : ℕ → Bool) → any_below 0 p ≡ false
unfolding any_below
none_below p = refl

pub next_below : (n : ℕ) (p : ℕ → Bool) → any_below n p ≡ false → p n ≡ false → any_below (n + 1) p ≡ false
unfolding any_below
next_below n p none here =
    let same : n + 1 ≡ suc n = omega arith in
    ap (λ (m : ℕ). any_below m p) same ∙ ap (λ (b : Bool). b || p n) none ∙ here

pub ruleset bit_steps = (none_below, next_below, below_is)

-- ---- the bits of a row by certificates

pub bit_at : {X : Type 0} (f : X → Bool) (xs : List X) (k : ℕ) (x : X) → slice_get xs k ≡ Some x
    → bit (map f xs) k ≡ f x
bit_at f xs k x there =
    get_or_from_slice_get (map f xs) k (f x) false
    (slice_get-map f xs k ∙ ap (λ (o : Option _). option_map f o) there)

some_at : {X : Type 0} (xs : List X) (k : ℕ) → k < length xs → (x : X) × (slice_get xs k ≡ Some x)
some_at [] k lt = absurd (omega (arith, lt))
some_at (x ∷ xs) zero lt = (x, refl)
some_at (x ∷ xs) (suc k) lt = some_at xs k (omega (arith, lt))

length_map : {X Y : Type 0} (f : X → Y) (xs : List X) → length (map f xs) ≡ length xs
length_map f [] = refl
length_map f (x ∷ xs) = ap (λ (n : ℕ). suc n) (length_map f xs)

pub both_any : {X : Type 0} (f g : X → Bool) (xs : List X)
    → any_both (map f xs) (map g xs) ≡ list_any (λ x. f x && g x) xs
both_any {X = X} f g xs =
    same_bool (any_both (map f xs) (map g xs)) (list_any (λ x. f x && g x) xs) to from
  where
    at : ℕ → Bool
    at k = bit (map f xs) k && bit (map g xs) k

    to : any_both (map f xs) (map g xs) ≡ true → list_any (λ x. f x && g x) xs ≡ true
    to is =
        let found = below_from (length (map f xs)) at is in
        let lt : found.0 < length xs = omega (arith, found.1, length_map f xs) in
        let there = some_at xs found.0 lt in
        let both = and_parts _ _ found.2 in
        any_is (λ x. f x && g x) xs found.0 there.0 there.1
        (and_from _ _ (sym (bit_at f xs found.0 there.0 there.1) ∙ both.0)
        (sym (bit_at g xs found.0 there.0 there.1) ∙ both.1))

    from : list_any (λ x. f x && g x) xs ≡ true → any_both (map f xs) (map g xs) ≡ true
    from is =
        let found = any_from (λ x. f x && g x) xs is in
        let both = and_parts _ _ found.3 in
        let lt = slice_get_within xs found.0 found.1 found.2 in
        below_is (length (map f xs)) at found.0 (omega (arith, lt, length_map f xs))
        (and_from _ _ (bit_at f xs found.0 found.1 found.2 ∙ both.0) (bit_at g xs found.0 found.1 found.2 ∙ both.1))

-- ---- the first numbers

pub below_mapped : {X : Type 0} (f g : ℕ → X) (n : ℕ) → ((k : ℕ) → k < n → f k ≡ g k) → map f (below n) ≡ map g (below n)
unfolding below
below_mapped f g zero same = refl
below_mapped f g (suc n) same =
    map-append f (below n) (n ∷ [])
    ∙ ap (λ (xs : List _). xs ++ f n ∷ []) (below_mapped f g n (λ k lt. same k (omega (arith, lt))))
    ∙ ap (λ (x : _). map g (below n) ++ x ∷ []) (same n (omega arith))
    ∙ sym (map-append g (below n) (n ∷ []))

pub below_none : below 0 ≡ []
unfolding below
below_none = refl

pub below_next : (n : ℕ) → below (n + 1) ≡ below n ++ n ∷ []
unfolding below
below_next n = let same : n + 1 ≡ suc n = omega arith in ap below same

map_again : {X Y Z : Type 0} (f : X → Y) (g : Y → Z) (xs : List X) → map g (map f xs) ≡ map (λ x. g (f x)) xs
map_again f g [] = refl
map_again f g (x ∷ xs) = ap (λ (ys : List _). g (f x) ∷ ys) (map_again f g xs)

pub mapped_twice : {X Y Z : Type 0} (f : X → Y) (g : Y → Z) (h : X → Z) (xs : List X) → ((x : X) → g (f x) ≡ h x)
    → map g (map f xs) ≡ map h xs
mapped_twice f g h [] same = refl
mapped_twice f g h (x ∷ xs) same =
    ap (λ (y : _). y ∷ map g (map f xs)) (same x) ∙ ap (λ (ys : List _). h x ∷ ys) (mapped_twice f g h xs same)

pub below_count : (n : ℕ) → length (below n) ≡ n
unfolding below
below_count zero = refl
below_count (suc n) = omega (arith, length-append (below n) (n ∷ []), below_count n)

pub level_at : (n k : ℕ) → k < n → slice_get (below n) k ≡ Some k
unfolding below
level_at zero k lt = absurd (omega (arith, lt))
level_at (suc n) k lt = by (less_or_same k n (omega (arith, lt))) (λ less. level_at n k less)
  where
    by : (k < n) ⊎ (k ≡ n) → (k < n → slice_get (below n) k ≡ Some k) → slice_get (below n ++ n ∷ []) k ≡ Some k
    by (inl less) rest =
        left_at (below n) (n ∷ []) k (omega (arith, less, below_count n)) ∙ rest less
    by (inr same) rest =
        let at : k ≡ length (below n) + 0 = omega (arith, same, below_count n) in
        ap (slice_get (below n ++ n ∷ [])) at ∙ right_at (below n) (n ∷ []) 0 ∙ ap (λ (m : ℕ). Some m) (sym same)

-- ---- rows of levels

pub rows_more : (f : ℕ → List Bool) (n : ℕ) (rows more : List (List Bool)) (row : List Bool) → rows ≡ map f (below n)
    → row ≡ f n → more ≡ rows ++ row ∷ [] → more ≡ map f (below (n + 1))
rows_more f n rows more row so_far is grown =
    grown ∙ ap (λ (rs : List (List Bool)). rs ++ row ∷ []) so_far
    ∙ ap (λ (r : List Bool). map f (below n) ++ r ∷ []) is
    ∙ sym (ap (map f) (below_next n) ∙ map-append f (below n) (n ∷ []))

pub rows_none : (f : ℕ → List Bool) (rows : List (List Bool)) → rows ≡ [] → rows ≡ map f (below 0)
rows_none f rows none = none ∙ sym (ap (map f) below_none)
