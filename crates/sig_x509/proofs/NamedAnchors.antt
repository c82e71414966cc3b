-- Trust anchors by subject.
use Rattle.std.proofs.Common.{◌≡◌, ◌⊎◌, ℕ, zero, suc, ◌+◌, ◌<◌, ◌≤◌, ltb, Bool, true, false, ◌||◌, cond, List, [], ◌∷◌}
use Rattle.std.proofs.Common.{◌++◌, length, map, take, get_or, Option, Some, None, slice_get, inl, inr, refl, sym, ap}
use Rattle.std.proofs.Common.{subst, arith, lt-ltb, ◌∙◌}
use Rattle.std.specs.Prelude.{Vec}
use Rattle.std.specs.Borrow.{Bor}
use Rattle.std.specs.declared.alloc.Global.{Global}
use Rattle.std.specs.Ordering.{is_eq, nat_cmp}
use Rattle.std.specs.Cmp.{eq_by_cmp_equiv}
use Rattle.std.specs.Cmp.Lexicographic.{slice_cmp, bytes_decides, nat_list_cmp_total, nat_list_eq_equiv}
use Rattle.std.specs.BTreeMap.{UpdatesBy, is_at}
use Rattle.std.specs.List.{list_any}
use Rattle.std.specs.Map.{AreApart, IsKeyTest, KeepsOthers, lookup}
use Rattle.std.specs.Str.{bytes_eq}
use Rattle.std.proofs.lemmas.Bool.{cases_Bool, cond-true, cond-false}
use Rattle.std.proofs.lemmas.Grind.{flat_map-append}
use Rattle.std.proofs.lemmas.List.{append-nil, length_push, map-append, take_all, take_more}
use Rattle.std.proofs.lemmas.List.Elements.{filter-append}
use Rattle.std.proofs.lemmas.List.Folds.{list_any-append}
use Rattle.std.proofs.lemmas.Map.Text.{is_eq-slice_cmp}
use Rattle.std.proofs.lemmas.Option.{get_or_from_slice_get}
use Rattle.sig_certificate.specs.Certificate.{Cert}
use Rattle.sig_x509.specs.NamedAnchors.{AddsPlace, Index, IsNameIndex, at_places, has_name, listed, named, one}
use Rattle.sig_x509.specs.NamedAnchors.{places_in, places_named}
use Rattle.sig_x509.specs.PathSearch.{of_read}

-- ---- a change at one subject

other_entries : {K X : Type 0} (eq : K → K → Bool) (test : K → Bool) (old new : List (K × X))
    → KeepsOthers eq test old new → (other : K → Bool) → IsKeyTest eq other → AreApart test other
    → lookup other new ≡ lookup other old
unfolding KeepsOthers
other_entries eq test old new keeps = keeps

apart : (bs cs ks : List ℕ) → bytes_eq bs cs ≡ false → is_eq (slice_cmp nat_cmp bs ks) ≡ true
    → is_eq (slice_cmp nat_cmp cs ks) ≡ false
apart bs cs ks differs equals =
    is_eq-slice_cmp cs ks ∙ nat_list_eq_equiv.symm cs ks
    ∙ sym (nat_list_eq_equiv.congr bs ks cs (sym (is_eq-slice_cmp bs ks) ∙ equals)) ∙ differs

abbrev pub ChangesAt : List ℕ → Index → Index → Option (Vec ℕ Global) → Type 0
ChangesAt name old new w =
    UpdatesBy (λ x y. slice_cmp nat_cmp x.items y.items) (λ k. slice_cmp nat_cmp name k.items) old new w

pub kept_places : (subject : List ℕ) (old new : Index) (w : Option (Vec ℕ Global)) → ChangesAt subject old new w
    → (name : List ℕ) → bytes_eq subject name ≡ false → places_in new name ≡ places_in old name
kept_places subject old new w changes name differs =
    ap listed (other_entries _ _ _ _ changes.3 _
    (λ x y. (eq_by_cmp_equiv nat_list_cmp_total).congr name x.items y.items) (λ k. apart subject name k.items differs))

pub place_added : (subject : List ℕ) (place : ℕ) (old mid new : Index) (key places : Vec ℕ Global) → key.items ≡ subject
    → places.items ≡ places_in old subject ++ place ∷ []
    → ((name : List ℕ) → bytes_eq subject name ≡ false → places_in mid name ≡ places_in old name)
    → ChangesAt key.items mid new (Some places) → AddsPlace subject place old new
place_added subject place old mid new key places same are kept changes name =
    by (cases_Bool (bytes_eq subject name))
  where
    here : places_in new subject ≡ places_in old subject ++ place ∷ []
    here = ap (λ (s : List ℕ). places_in new s) (sym same) ∙ ap listed changes.1 ∙ are

    by : (bytes_eq subject name ≡ true) ⊎ (bytes_eq subject name ≡ false) → places_in new name
        ≡ cond (bytes_eq subject name) (places_in old name ++ place ∷ []) (places_in old name)
    by (inl equals) =
        subst (λ (s : List ℕ). places_in new s ≡ places_in old s ++ place ∷ []) ((bytes_decides subject name).0 equals) here
        ∙ sym (cond-true (bytes_eq subject name) (places_in old name ++ place ∷ []) (places_in old name) equals)
    by (inr differs) =
        kept_places key.items mid new (Some places) changes name
        (ap (λ (s : List ℕ). bytes_eq s name) same ∙ differs)
        ∙ kept name differs
        ∙ sym (cond-false (bytes_eq subject name) (places_in old name ++ place ∷ []) (places_in old name) differs)

-- ---- the index over one trust anchor more

pub index_begun : (anchors : List Cert) (index : Index) → index.entries ≡ [] → IsNameIndex anchors 0 index
index_begun anchors index none name =
    ap (λ (es : List _). listed (lookup (is_at (λ k. slice_cmp nat_cmp name k.items)) es)) none

pub index_more : (anchors : List Cert) (k : ℕ) (old new : Index) (x : Cert) (subject : List ℕ)
    → slice_get anchors k ≡ Some x → subject ≡ x.subject → IsNameIndex anchors k old → AddsPlace subject k old new
    → IsNameIndex anchors (k + 1) new
index_more anchors k old new x subject there is so_far adds name =
    let next : k + 1 ≡ suc k = omega arith in
    adds name
    ∙ ap (λ (b : Bool). cond b (places_in old name ++ k ∷ []) (places_in old name))
    (ap (λ (s : List ℕ). bytes_eq s name) is ∙ nat_list_eq_equiv.symm x.subject name)
    ∙ ap (λ (ps : List ℕ). cond (bytes_eq name x.subject) (ps ++ k ∷ []) ps) (so_far name)
    ∙ sym (ap (λ (o : Option Cert). cond (of_read (has_name name) o) (places_named anchors k name ++ k ∷ [])
    (places_named anchors k name)) there)
    ∙ sym (ap (λ (n : ℕ). places_named anchors n name) next)

-- ---- those at the indices

some_at : (xs : List Cert) (k : ℕ) → k < length xs → (x : Cert) × (slice_get xs k ≡ Some x)
some_at [] k lt = absurd (omega (arith, lt))
some_at (x ∷ xs) zero lt = (x, refl)
some_at (x ∷ xs) (suc k) lt = some_at xs k (omega (arith, lt))

first_more : (xs : List Cert) (n : ℕ) (x : Cert) → n < length xs → slice_get xs n ≡ Some x
    → take (suc n) xs ≡ take n xs ++ x ∷ []
first_more xs n x lt there =
    let next : suc n ≡ n + 1 = omega arith in
    ap (λ (m : ℕ). take m xs) next ∙ take_more xs n x lt
    ∙ ap (λ (y : Cert). take n xs ++ y ∷ []) (get_or_from_slice_get xs n x x there)

module _ (xs : List Cert) (name : List ℕ) where
  gathered : (n : ℕ) → n ≤ length xs → at_places xs (places_named xs n name) ≡ named name (take n xs)
  gathered zero le = refl
  gathered (suc n) le =
      let there = some_at xs n (omega (arith, le)) in
      ap (λ (o : Option Cert). at_places xs (cond (of_read (has_name name) o) (places_named xs n name ++ n ∷ [])
      (places_named xs n name))) there.1
      ∙ by there.0 there.1 (gathered n (omega (arith, le))) (has_name name there.0)
      ∙ sym (ap (named name) (first_more xs n there.0 (omega (arith, le)) there.1)
      ∙ filter-append (has_name name) (take n xs) (there.0 ∷ []))
    where
      by : (x : Cert) → slice_get xs n ≡ Some x → at_places xs (places_named xs n name) ≡ named name (take n xs)
          → (b : Bool) → at_places xs (cond b (places_named xs n name ++ n ∷ []) (places_named xs n name))
          ≡ named name (take n xs) ++ cond b (x ∷ []) []
      by x there so_far true =
          flat_map-append (λ k. one (slice_get xs k)) (places_named xs n name) (n ∷ [])
          ∙ ap (λ (ys : List Cert). ys ++ (one (slice_get xs n) ++ [])) so_far
          ∙ ap (λ (o : Option Cert). named name (take n xs) ++ (one o ++ [])) there
      by x there so_far false = so_far ∙ sym (append-nil (named name (take n xs)))

  pub all_gathered : at_places xs (places_named xs (length xs) name) ≡ named name xs
  all_gathered = gathered (length xs) (omega arith) ∙ ap (named name) (take_all (length xs) xs (omega arith))

  or_last : (b : Bool) → (b || true) ≡ true
  or_last true = refl
  or_last false = refl

  or_first : (b : Bool) → (b || false) ≡ b
  or_first true = refl
  or_first false = refl

  some_place : (n : ℕ) → n ≤ length xs → ltb 0 (length (places_named xs n name)) ≡ list_any (has_name name) (take n xs)
  some_place zero le = refl
  some_place (suc n) le =
      let there = some_at xs n (omega (arith, le)) in
      ap (λ (o : Option Cert). ltb 0 (length (cond (of_read (has_name name) o) (places_named xs n name ++ n ∷ [])
      (places_named xs n name)))) there.1
      ∙ by (some_place n (omega (arith, le))) (has_name name there.0)
      ∙ sym (ap (list_any (has_name name)) (first_more xs n there.0 (omega (arith, le)) there.1)
      ∙ list_any-append (has_name name) (take n xs) (there.0 ∷ []))
    where
      by : ltb 0 (length (places_named xs n name)) ≡ list_any (has_name name) (take n xs)
          → (b : Bool) → ltb 0 (length (cond b (places_named xs n name ++ n ∷ []) (places_named xs n name)))
          ≡ (list_any (has_name name) (take n xs) || (b || false))
      by so_far true =
          lt-ltb 0 (length (places_named xs n name ++ n ∷ [])) (omega (arith, length_push (places_named xs n name) n))
          ∙ sym (or_last (list_any (has_name name) (take n xs)))
      by so_far false = so_far ∙ sym (or_first (list_any (has_name name) (take n xs)))

  pub some_named : ltb 0 (length (places_named xs (length xs) name)) ≡ list_any (has_name name) xs
  some_named =
      some_place (length xs) (omega arith)
      ∙ ap (list_any (has_name name)) (take_all (length xs) xs (omega arith))

-- a loop over the indices
module _ (xs : List Cert) (places : List ℕ) (j : ℕ) (lt : j < length places) where
  places_more : at_places xs (take (j + 1) places)
      ≡ at_places xs (take j places) ++ one (slice_get xs (get_or places j 0))
  places_more =
      ap (at_places xs) (take_more places j 0 lt)
      ∙ flat_map-append (λ k. one (slice_get xs k)) (take j places) (get_or places j 0 ∷ [])
      ∙ ap (λ (ys : List Cert). at_places xs (take j places) ++ ys) (append-nil (one (slice_get xs (get_or places j 0))))

  pub place_there : (found more : List (Bor Cert)) (b : Bor Cert) → slice_get xs (get_or places j 0) ≡ Some b.now
      → map (λ z. z.now) found ≡ at_places xs (take j places) → more ≡ found ++ b ∷ []
      → map (λ z. z.now) more ≡ at_places xs (take (j + 1) places)
  place_there found more b there so_far grown =
      ap (map (λ z. z.now)) grown ∙ map-append (λ z. z.now) found (b ∷ [])
      ∙ ap (λ (ys : List Cert). ys ++ b.now ∷ []) so_far
      ∙ sym (places_more ∙ ap (λ (o : Option Cert). at_places xs (take j places) ++ one o) there)

  pub place_absent : (found : List (Bor Cert)) → slice_get xs (get_or places j 0) ≡ None
      → map (λ z. z.now) found ≡ at_places xs (take j places)
      → map (λ z. z.now) found ≡ at_places xs (take (j + 1) places)
  place_absent found there so_far =
      so_far
      ∙ sym (places_more ∙ ap (λ (o : Option Cert). at_places xs (take j places) ++ one o) there
      ∙ append-nil (at_places xs (take j places)))
