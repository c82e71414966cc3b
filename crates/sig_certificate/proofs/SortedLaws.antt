-- A list that is sorted by one key, so that equal ones are neighbours, and then back by another by which it ascended.
use Rattle.std.proofs.Common.{◌≡◌, ◌≢◌, ℕ, ◌+◌, ◌<◌, zero, suc, Bool, true, false, List, [], ◌∷◌, length, map, get_or}
use Rattle.std.proofs.Common.{refl, sym, ap, subst, ◌∙◌, ◌⊎◌, inl, inr, Ordering, Less, Equal, Greater, arith}
use Rattle.std.specs.Bool.{Decides, one_answer}
use Rattle.std.specs.Cmp.{IsStrictWeakOrder}
use Rattle.std.specs.Cmp.Lexicographic.{slice_cmp}
use Rattle.std.specs.List.{All, AllPairs, AllAdjacentBelow, Contains, IsDistinct, IsAllAdjacentAnswer}
use Rattle.std.specs.List.Sorted.{IsPermutation, IsSortedBy, IsNonDecreasingBy}
use Rattle.std.specs.Ordering.{nat_cmp, is_lt, ordering_reverse}
use Rattle.std.proofs.Math.Nat.{eq-or-lt_of_le}
use Rattle.std.proofs.lemmas.Bool.{cases_Bool}
use Rattle.std.proofs.lemmas.Bool.Decides.{Decides-eqb}
use Rattle.std.proofs.lemmas.Cmp.{nat_list_cmp_total}
use Rattle.std.proofs.lemmas.List.{get_or-map, length-map}
use Rattle.std.proofs.lemmas.List.Elements.{All-contains_itself}
use Rattle.std.proofs.lemmas.List.MinMax.{ranks_by}
use Rattle.std.proofs.lemmas.List.Sorted.{IsPermutation-map, IsPermutation-sym, All-permutation, sorted_far}
use Rattle.std.proofs.lemmas.Map.Keys.{IsDistinct-IsPermutation}
use Rattle.std.proofs.lemmas.Map.Lookups.{exact_bytes}
use Rattle.std.proofs.lemmas.Map.Made.{AllPairs-from_IsDistinct, IsDistinct-from_AllPairs}
use Rattle.std.proofs.lemmas.Simd.{map-map}
use Rattle.std.proofs.lemmas.Slice.Eq.{bytes_eq-Decides}
use Rattle.sig_certificate.specs.declared.extensions.ExtensionPlaces.{ExtensionPlaces}
use Rattle.sig_certificate.specs.Certificate.{Extension}
use Rattle.sig_certificate.specs.Lookups.{oids, are_distinct, are_single}
use Rattle.sig_certificate.specs.Places.{part, extension_of}
use Rattle.sig_certificate.proofs.DistinctLaws.{distinct_from, distinct_is}

-- ---- keys that differ pairwise

module _ {X K : Type 0} {eq : K → K → Bool} (same : (a b : K) → Decides (eq a b) (a ≡ b)) (key : X → K) where
  keys_distinct : (xs : List X) → AllPairs (λ x y. key x ≢ key y) xs → IsDistinct eq (map key xs)
  unfolding IsDistinct
  keys_distinct [] apart = tt
  keys_distinct (x ∷ xs) apart =
      IsDistinct-from_AllPairs same (map key (x ∷ xs)) (λ i j d lt below e.
      let inside : j < length (x ∷ xs) = omega (arith, length-map (x ∷ xs) key) in
      apart i j x lt inside
      (sym (get_or-map key (x ∷ xs) i x d (omega arith)) ∙ e ∙ get_or-map key (x ∷ xs) j x d inside))

  keys_apart : (xs : List X) → IsDistinct eq (map key xs) → AllPairs (λ x y. key x ≢ key y) xs
  keys_apart xs is i j d lt below e =
      AllPairs-from_IsDistinct same (map key xs) is i j (key d) lt (omega (arith, length-map xs key))
      (get_or-map key xs i d (key d) (omega arith) ∙ e ∙ sym (get_or-map key xs j d (key d) below))

  -- and so in any order
  keys_moved : (xs ys : List X) → IsPermutation xs ys → AllPairs (λ x y. key x ≢ key y) xs
      → AllPairs (λ x y. key x ≢ key y) ys
  keys_moved xs ys moved apart =
      keys_apart ys (IsDistinct-IsPermutation eq flips (map key xs) (map key ys) (IsPermutation-map key xs ys moved)
      (keys_distinct xs apart))
    where
      flips : (a b : K) → eq a b ≡ eq b a
      flips a b = one_answer (eq a b) (eq b a) (same a b) ((λ e. sym ((same b a).0 e)), (λ e. (same b a).1 (sym e)))

-- ---- the same elements, ascending by a number, are the same list

module _ {X : Type 0} (key : X → ℕ) where
  abbrev Rises : List X → Type 0
  Rises xs = AllPairs (λ x y. key x < key y) xs

  preamble_below : (x : X) (xs : List X) → Rises (x ∷ xs) → (z : X) → Contains xs z → key x < key z
  preamble_below x xs up z (k, below, is) =
      subst (λ (w : X). key x < key w) is (up 0 (suc k) z (omega arith) (omega (arith, below)))

  tail_rises : (x : X) (xs : List X) → Rises (x ∷ xs) → Rises xs
  tail_rises x xs up i j d lt below = up (suc i) (suc j) d (omega (arith, lt)) (omega (arith, below))

  in_cons : (y : X) (ys : List X) (x : X) → Contains (y ∷ ys) x → (y ≡ x) ⊎ Contains ys x
  in_cons y ys x (zero, below, is) = inl is
  in_cons y ys x (suc k, below, is) = inr (k, omega (arith, below), is)

  same_head : (x : X) (xs : List X) (y : X) (ys : List X) → Rises (x ∷ xs) → Rises (y ∷ ys) → Contains (y ∷ ys) x
      → Contains (x ∷ xs) y → x ≡ y
  same_head x xs y ys up1 up2 first second =
      elim (in_cons y ys x first) [
        | inl e ↦ sym e
        | inr later ↦ elim (in_cons x xs y second) [
          | inl e ↦ e
          | inr after ↦
              let below = preamble_below y ys up2 x later in
              let above = preamble_below x xs up1 y after in
              absurd (omega (arith, below, above))
        ]
      ]

  in_tail : (x : X) (xs : List X) (y : X) (ys : List X) → x ≡ y → Rises (x ∷ xs) → All (Contains (y ∷ ys)) (x ∷ xs)
      → All (Contains ys) xs
  in_tail x xs y ys is up there k d below =
      elim (in_cons y ys (get_or xs k d) (there (suc k) d (omega (arith, below)))) [
        | inl e ↦
            let lt : key x < key (get_or xs k d) = up 0 (suc k) d (omega arith) (omega (arith, below)) in
            let eq : key x ≡ key (get_or xs k d) = ap key (is ∙ e) in
            absurd (omega (arith, lt, eq))
        | inr later ↦ later
      ]

  same_list : (xs ys : List X) → Rises xs → Rises ys → All (Contains ys) xs → All (Contains xs) ys → xs ≡ ys
  same_list [] [] up1 up2 to from = refl
  same_list [] (y ∷ ys) up1 up2 to from = let c = from 0 y (omega arith) in absurd (omega (arith, c.1))
  same_list (x ∷ xs) [] up1 up2 to from = let c = to 0 x (omega arith) in absurd (omega (arith, c.1))
  same_list (x ∷ xs) (y ∷ ys) up1 up2 to from =
      let first : x ≡ y = same_head x xs y ys up1 up2 (to 0 x (omega arith)) (from 0 y (omega arith)) in
      let rest : xs ≡ ys =
      same_list xs ys (tail_rises x xs up1) (tail_rises y ys up2) (in_tail x xs y ys first up1 to)
      (in_tail y ys x xs (sym first) up2 from) in
      cc

  rises_again : (xs ys : List X) → IsPermutation xs ys → Rises xs → IsNonDecreasingBy key ys → Rises ys
  rises_again xs ys moved up order i j d lt below =
      let differ : AllPairs (λ x y. key x ≢ key y) xs =
      λ a b e l m is. absurd (let less = up a b e l m in omega (arith, less, is)) in
      let apart = keys_moved Decides-eqb key xs ys moved differ in
      elim (eq-or-lt_of_le (order i j d (omega arith) below)) [
        | inl e ↦ absurd (apart i j d lt below e)
        | inr less ↦ less
      ]

  -- sorted by the number by which it ascended, a list is as it was
  pub sorted_back : (xs ys : List X) → IsPermutation xs ys → Rises xs → IsNonDecreasingBy key ys → ys ≡ xs
  sorted_back xs ys moved up order =
      sym (same_list xs ys up (rises_again xs ys moved up order)
      (All-permutation (Contains ys) ys xs (IsPermutation-sym xs ys moved) (All-contains_itself ys))
      (All-permutation (Contains xs) xs ys moved (All-contains_itself xs)))

-- ---- sorted by a text, no two are equal exactly if no two neighbours are

abbrev pub is_before : List ℕ → ExtensionPlaces → ExtensionPlaces → Bool
is_before bytes d e = is_lt (slice_cmp nat_cmp (part bytes d.oid) (part bytes e.oid))

pub is_order : (bytes : List ℕ) → IsStrictWeakOrder (is_before bytes)
is_order bytes = ranks_by nat_list_cmp_total (λ (e : ExtensionPlaces). part bytes e.oid)

neither : (x y : List ℕ) → is_lt (slice_cmp nat_cmp x y) ≡ false → is_lt (slice_cmp nat_cmp y x) ≡ false → x ≡ y
neither x y a b = by_answers (slice_cmp nat_cmp x y) (slice_cmp nat_cmp y x) refl (nat_list_cmp_total.antisymm x y) a b
  where
    by_answers : (r s : Ordering) → slice_cmp nat_cmp x y ≡ r → r ≡ ordering_reverse s → is_lt r ≡ false
        → is_lt s ≡ false → x ≡ y
    by_answers Less s is flips a b = absurd cc
    by_answers Equal s is flips a b = exact_bytes x y is
    by_answers Greater Less is flips a b = absurd cc
    by_answers Greater Equal is flips a b = absurd cc
    by_answers Greater Greater is flips a b = absurd cc

module _ (bytes : List ℕ) where
  abbrev text : ExtensionPlaces → List ℕ
  text e = part bytes e.oid

  abbrev Apart : List ExtensionPlaces → Type 0
  Apart es = AllPairs (λ d e. text d ≢ text e) es

  texts_are : (es : List ExtensionPlaces) → oids (map (extension_of bytes) es) ≡ map text es
  texts_are es = map-map (λ (e : Extension). e.oid) (extension_of bytes) es

  all_apart : (es : List ExtensionPlaces) → IsSortedBy (is_before bytes) es
      → AllAdjacentBelow (λ d e. true ≡ is_before bytes d e) es (length es) → Apart es
  all_apart es up rises i j d lt below same =
      let next = get_or es (i + 1) d in
      let far : is_before bytes (get_or es j d) next ≡ false =
      sorted_far (is_before bytes) (is_order bytes) es up (i + 1) j d (omega arith) below in
      let near : true ≡ is_before bytes (get_or es i d) next = rises i d (omega arith) in
      let likewise : is_before bytes (get_or es i d) next ≡ is_before bytes (get_or es j d) next =
      ap (λ (w : List ℕ). is_lt (slice_cmp nat_cmp w (text next))) same in
      absurd cc

  one_twice : (es : List ExtensionPlaces) → IsSortedBy (is_before bytes) es → (k : ℕ) → k + 1 < length es
      → ((d : ExtensionPlaces) → false ≡ is_before bytes (get_or es k d) (get_or es (k + 1) d)) → Apart es → ⊥
  one_twice [] up k below not_before apart = absurd (omega (arith, below))
  one_twice (e ∷ es) up k below not_before apart =
      apart k (k + 1) e (omega arith) below
      (neither (text (get_or (e ∷ es) k e)) (text (get_or (e ∷ es) (k + 1) e)) (sym (not_before e))
      (up k e (omega arith) below))

  -- the test of neighbours in the sorted list is that of each with each in the list
  pub neighbours_tell : (es sorted : List ExtensionPlaces) → IsPermutation es sorted
      → IsSortedBy (is_before bytes) sorted → (r : Bool)
      → IsAllAdjacentAnswer (λ d e b. b ≡ is_before bytes d e) sorted r → r ≡ are_single (map (extension_of bytes) es)
  neighbours_tell es sorted moved up true rises =
      let differ =
      keys_moved bytes_eq-Decides text sorted es (IsPermutation-sym es sorted moved) (all_apart sorted up rises) in
      sym (ap are_distinct (texts_are es) ∙ distinct_is (map text es) (keys_distinct bytes_eq-Decides text es differ))
  neighbours_tell es sorted moved up false (k, below, not_before) =
      elim (cases_Bool (are_distinct (map text es))) [
        | inl differs ↦
            let differ = keys_apart bytes_eq-Decides text es (distinct_from (map text es) differs) in
            absurd (one_twice sorted up k below not_before (keys_moved bytes_eq-Decides text es sorted moved differ))
        | inr twice ↦ sym (ap are_distinct (texts_are es) ∙ twice)
      ]
