-- The trust anchors by subject and key: the order is total, and what is found by it is the first that has them.
use Rattle.std.proofs.Common.{◌≡◌, ℕ, ◌+◌, ◌<◌, ◌≤◌, Bool, true, false, ◌&&◌, ◌||◌, cond, List, [], ◌∷◌, ◌++◌}
use Rattle.std.proofs.Common.{length, get_or, Option, Some, None, slice_get, refl, sym, ap, subst}
use Rattle.std.proofs.Common.{◌∙◌, arith, leb, take, ⊎_elim}
use Rattle.std.specs.Prelude.{Contains, bytes_eq, position}
use Rattle.std.specs.List.{list_any}
use Rattle.std.specs.List.Sorted.{IsNonDecreasingBy}
use Rattle.std.specs.Option.{option_cmp, option_map}
use Rattle.std.specs.Cmp.{IsTotalOrder}
use Rattle.std.specs.Cmp.Lexicographic.{options_total}
use Rattle.std.specs.declared.cmp.Ordering.{Ordering}
use Rattle.std.specs.Ordering.{ordering_index}
use Rattle.std.specs.declared.cmp.Ordering.TheVariants.{Equal, Greater, Less}
use Rattle.std.proofs.lemmas.Bool.{and_from, and_parts, cases_lt, leb-true, leb-false}
use Rattle.std.proofs.lemmas.Cmp.{then_total, on_total, nat_cmp_total, nat_list_cmp_total, tied_itself}
use Rattle.std.proofs.lemmas.List.Elements.{All-contains}
use Rattle.std.proofs.lemmas.List.Sorted.{Contains-permutation, IsPermutation-sym, searchable_from_sorted}
use Rattle.std.proofs.lemmas.Map.Lookups.{CmpEqualImpliesEq, exact_bytes}
use Rattle.std.proofs.lemmas.List.{take_more}
use Rattle.std.proofs.lemmas.Option.{get_or_from_slice_get, slice_get-get_or, slice_get_within}
use Rattle.std.proofs.lemmas.Slice.Eq.{bytes_eq-Decides}
use Rattle.sig_base.specs.Rank.{rank_from}
use Rattle.sig_base.proofs.Orderings.{both_tie}
use Rattle.sig_certificate.specs.Certificate.{Cert}
use Rattle.sig_x509.specs.AskedAnchors.{IsFirstOfItsKey}
use Rattle.sig_x509.specs.KeyOrder.{AreGreaterFrom, AreLessBefore, IsKeyOrder, IsPart, Signer, compared_at, has_key}
use Rattle.sig_x509.specs.KeyOrder.{has_some_key, key_order, lesser, signer_at, signer_of, signer_order}
use Rattle.sig_x509.proofs.Elements.{at_contained, at_position, before_position, contains_at, no_position, position_at}
use Rattle.sig_x509.proofs.Elements.{position_nowhere}

pub signer_order_total : (from : ℕ) → IsTotalOrder (signer_order from)
unfolding signer_order key_order
signer_order_total from =
    then_total (on_total (λ s. rank_from from s.1) nat_cmp_total)
    (then_total (on_total (λ s. s.1) nat_list_cmp_total) (on_total (λ s. s.0) nat_list_cmp_total))

same_signer : (from : ℕ) → CmpEqualImpliesEq (signer_order from)
unfolding signer_order key_order
same_signer from a b e =
    let ranks = both_tie _ _ e in
    let both = both_tie _ _ ranks.1 in
    ap (λ (s : List ℕ). (s, a.1)) (exact_bytes a.0 b.0 both.1) ∙ ap (λ (k : List ℕ). (b.0, k)) (exact_bytes a.1 b.1 both.0)

-- ---- the first of a subject and an SPKI

has_from : (subject spki : List ℕ) (x : Cert) → signer_of x ≡ (subject, spki) → has_key subject spki x ≡ true
has_from subject spki x is =
    and_from _ _ ((bytes_eq-Decides subject x.subject).1 (sym (ap (λ (s : Signer). s.0) is)))
    ((bytes_eq-Decides spki x.spki).1 (sym (ap (λ (s : Signer). s.1) is)))

has_to : (subject spki : List ℕ) (x : Cert) → has_key subject spki x ≡ true → signer_of x ≡ (subject, spki)
has_to subject spki x has =
    let both = and_parts _ _ has in
    ap (λ (s : List ℕ). (s, x.spki)) (sym ((bytes_eq-Decides subject x.subject).0 both.0))
    ∙ ap (λ (k : List ℕ). (subject, k)) (sym ((bytes_eq-Decides spki x.spki).0 both.1))

-- ---- what one comparison says of the others

less_below : (o p : Ordering) → ordering_index o ≤ ordering_index p → p ≡ Less → o ≡ Less
less_below Less p le e = refl
less_below Equal Less le e = absurd (omega arith)
less_below Equal Equal le e = absurd cc
less_below Equal Greater le e = absurd cc
less_below Greater Less le e = absurd (omega arith)
less_below Greater Equal le e = absurd cc
less_below Greater Greater le e = absurd cc

greater_above : (o p : Ordering) → ordering_index o ≤ ordering_index p → o ≡ Greater → p ≡ Greater
greater_above Less p le e = absurd cc
greater_above Equal p le e = absurd cc
greater_above Greater Less le e = absurd (omega arith)
greater_above Greater Equal le e = absurd (omega arith)
greater_above Greater Greater le e = refl

module _ (from : ℕ) (anchors : List Cert) (order : List ℕ) (is : IsKeyOrder from anchors order)
    (subject spki : List ℕ) where
  -- what the search asks of each index
  abbrev pub sought : ℕ → Ordering
  sought = compared_at from anchors (subject, spki)

  rises : IsNonDecreasingBy (λ index. ordering_index (sought index)) order
  rises =
      searchable_from_sorted (options_total (signer_order_total from)) (λ index. signer_at anchors index) order
      (Some (subject, spki)) is.ascends

  at_place : (k index : ℕ) → slice_get order k ≡ Some index → (k < length order) × (get_or order k 0 ≡ index)
  at_place k index there =
      (slice_get_within order k index there, get_or_from_slice_get order k index 0 there)

  -- those before one that comes before the signer do too
  less_before : (k : ℕ) → k < length order → sought (get_or order k 0) ≡ Less
      → AreLessBefore from anchors order (subject, spki) (k + 1)
  less_before k within less = (
    omega (arith, within),
    λ j other lt got. let here = at_place j other got in
        less_below (sought other) (sought (get_or order k 0))
        (subst (λ (i : ℕ). ordering_index (sought i) ≤ ordering_index (sought (get_or order k 0))) here.1
        (rises j k 0 (omega arith) within)) less,
  )

  -- those after one that comes after the signer do too
  greater_from : (k : ℕ) → k < length order → sought (get_or order k 0) ≡ Greater
      → AreGreaterFrom from anchors order (subject, spki) k
  greater_from k within greater j other le got =
      let here = at_place j other got in
      greater_above (sought (get_or order k 0)) (sought other)
      (subst (λ (i : ℕ). ordering_index (sought (get_or order k 0)) ≤ ordering_index (sought i)) here.1
      (rises k j 0 le here.0)) greater

  -- the signer may have any place
  pub all_places : IsPart from anchors order (subject, spki) 0 (length order)
  all_places =
      record {
        before = (omega arith, λ k index lt got. absurd (omega (arith, lt)));
        after = λ j other le got. let here = at_place j other got in absurd (omega (arith, le, here.0));
        ordered = omega arith;
        within = omega arith;
      }

  -- of a part, what is left after a comparison
  pub part_after : (start end k : ℕ) → IsPart from anchors order (subject, spki) start end → start ≤ k → k < end
      → sought (get_or order k 0) ≡ Less → IsPart from anchors order (subject, spki) (k + 1) end
  part_after start end k part low below less =
      record {
        before = less_before k (omega (arith, below, part.within)) less;
        after = part.after;
        ordered = omega (arith, below);
        within = part.within;
      }

  pub part_before : (start end k : ℕ) → IsPart from anchors order (subject, spki) start end → start ≤ k → k < end
      → sought (get_or order k 0) ≡ Greater → IsPart from anchors order (subject, spki) start k
  part_before start end k part low below greater =
      record {
        before = part.before;
        after = greater_from k (omega (arith, below, part.within)) greater;
        ordered = low;
        within = omega (arith, below, part.within);
      }

  tied : (o : Option Cert) → option_cmp (signer_order from) (option_map signer_of o) (Some (subject, spki)) ≡ Equal
      → (x : Cert) × (o ≡ Some x) × (signer_of x ≡ (subject, spki))
  tied None e = absurd cc
  tied (Some x) e = (x, refl, same_signer from (signer_of x) (subject, spki) e)

  ties : (index : ℕ) (x : Cert) → slice_get anchors index ≡ Some x → has_key subject spki x ≡ true
      → sought index ≡ Equal
  ties index x there has =
      ap (λ (o : Option Cert). option_cmp (signer_order from) (option_map signer_of o) (Some (subject, spki))) there
      ∙ ap (λ (s : Signer). signer_order from s (subject, spki)) (has_to subject spki x has)
      ∙ tied_itself (signer_order_total from) (subject, spki)

  pub first_of : (index : ℕ) → Contains order index → IsFirstOfItsKey anchors index
  first_of index has =
      All-contains (IsFirstOfItsKey anchors) is.asked index is.are_asked.firsts
      (Contains-permutation order is.asked index (IsPermutation-sym is.asked order is.moved) has)

  -- an index that the search finds
  pub found_first : (place : ℕ) → place < length order → sought (get_or order place 0) ≡ Equal
      → Some (get_or order place 0) ≡ position (has_key subject spki) anchors
  found_first place within tie =
      let index : ℕ = get_or order place 0 in
      let found = tied (slice_get anchors index) tie in
      let first = first_of index (contains_at order place index (slice_get-get_or order place 0 within)) in
      sym (position_at (has_key subject spki) anchors index found.0 found.1 (has_from subject spki found.0 found.2)
      (λ k y lt there. by k y lt there found first (has_key subject spki y) refl))
    where
      by : (k : ℕ) (y : Cert) → k < get_or order place 0 → slice_get anchors k ≡ Some y
          → (x : Cert) × (slice_get anchors (get_or order place 0) ≡ Some x) × (signer_of x ≡ (subject, spki))
          → IsFirstOfItsKey anchors (get_or order place 0) → (b : Bool) → has_key subject spki y ≡ b → b ≡ false
      by k y lt there found first false e = refl
      by k y lt there found first true e =
          let same : first.anchor ≡ found.0 = cc (first.there, found.1) in
          let one = has_to subject spki y e in
          absurd (first.first k y lt there (record {
            subject = ap (λ (s : Signer). s.0) (one ∙ sym found.2) ∙ ap (λ (x : Cert). x.subject) (sym same);
            spki = ap (λ (s : Signer). s.1) (one ∙ sym found.2) ∙ ap (λ (x : Cert). x.spki) (sym same);
          }))

  -- where no place is left
  pub none_left : (start end : ℕ) → IsPart from anchors order (subject, spki) start end → end ≤ start
      → None ≡ position (has_key subject spki) anchors
  none_left start end part empty =
      sym (position_nowhere (has_key subject spki) anchors (λ k x there. by k x there (has_key subject spki x) refl))
    where
      nowhere : (k index : ℕ) → slice_get order k ≡ Some index → sought index ≡ Equal → ⊥
      nowhere k index there tie =
          ⊎_elim
          (λ before. let less = part.before.1 k index before there in absurd (cc (less, tie)))
          (λ low. let greater = part.after k index (omega (arith, low, empty)) there in absurd (cc (greater, tie)))
          (cases_lt k start)

      by : (k : ℕ) (x : Cert) → slice_get anchors k ≡ Some x → (b : Bool) → has_key subject spki x ≡ b → b ≡ false
      by k x there false e = refl
      by k x there true e =
          let cover = is.are_asked.covers k x there in
          let place_of = Contains-permutation is.asked order cover.first is.moved cover.is_asked in
          let same : has_key subject spki cover.anchor ≡ true =
          ap (λ (s : List ℕ). bytes_eq subject s && bytes_eq spki cover.anchor.spki) cover.same.subject
          ∙ ap (λ (s : List ℕ). bytes_eq subject x.subject && bytes_eq spki s) cover.same.spki ∙ e in
          absurd (nowhere place_of.0 cover.first (at_contained order cover.first place_of)
          (ties cover.first cover.anchor cover.there same))

-- ---- the first of some SPKIs

pub no_keys : (subject : List ℕ) (anchors : List Cert) → None ≡ position (has_some_key subject []) anchors
no_keys subject anchors =
    sym (position_nowhere (has_some_key subject []) anchors (λ k x there. never (bytes_eq subject x.subject)))
  where
    never : (b : Bool) → (b && false) ≡ false
    never true = refl
    never false = refl

more_keys : (subject : List ℕ) (keys : List (List ℕ)) (key : List ℕ) (x : Cert)
    → has_some_key subject (keys ++ key ∷ []) x ≡ (has_some_key subject keys x || has_key subject key x)
more_keys subject keys key x = by (bytes_eq subject x.subject)
  where
    last : (ks : List (List ℕ)) → list_any (λ k. bytes_eq k x.spki) (ks ++ key ∷ [])
        ≡ (list_any (λ k. bytes_eq k x.spki) ks || bytes_eq key x.spki)
    last [] = or_none (bytes_eq key x.spki)
      where
        or_none : (b : Bool) → (b || false) ≡ b
        or_none true = refl
        or_none false = refl
    last (k ∷ ks) = ap (λ (b : Bool). bytes_eq k x.spki || b) (last ks) ∙ regroup (bytes_eq k x.spki) _ _
      where
        regroup : (a b c : Bool) → (a || (b || c)) ≡ ((a || b) || c)
        regroup true b c = refl
        regroup false b c = refl

    by : (b : Bool) → (b && list_any (λ k. bytes_eq k x.spki) (keys ++ key ∷ []))
        ≡ ((b && list_any (λ k. bytes_eq k x.spki) keys) || (b && bytes_eq key x.spki))
    by true = last keys
    by false = refl

-- the first that passes one of two tests is the lesser of the two firsts
either_position : {X : Type 0} (p q r : X → Bool) (xs : List X) → ((x : X) → r x ≡ (p x || q x))
    → position r xs ≡ lesser (position p xs) (position q xs)
either_position {X = X} p q r xs is = by (position p xs) refl (position q xs) refl
  where
    neither : (x : X) → p x ≡ false → q x ≡ false → r x ≡ false
    neither x a b = is x ∙ ap (λ (c : Bool). c || q x) a ∙ b

    by_left : (x : X) → p x ≡ true → r x ≡ true
    by_left x a = is x ∙ ap (λ (c : Bool). c || q x) a

    by_right : (x : X) → q x ≡ true → r x ≡ true
    by_right x b = is x ∙ ap (λ (c : Bool). p x || c) b ∙ true_last (p x)
      where
        true_last : (c : Bool) → (c || true) ≡ true
        true_last true = refl
        true_last false = refl

    by : (o : Option ℕ) → position p xs ≡ o → (u : Option ℕ) → position q xs ≡ u
        → position r xs ≡ lesser (position p xs) (position q xs)
    by None e None f =
        position_nowhere r xs (λ k x there. neither x (no_position p xs e k x there) (no_position q xs f k x there))
        ∙ sym (ap (λ (o : Option ℕ). lesser o (position q xs)) e ∙ f)
    by None e (Some j) f =
        let found = at_position q xs j f in
        position_at r xs j found.0 found.1 (by_right found.0 found.2)
        (λ k x lt there. neither x (no_position p xs e k x there) (before_position q xs j f k x lt there))
        ∙ sym (ap (λ (o : Option ℕ). lesser o (position q xs)) e ∙ f)
    by (Some i) e None f =
        let found = at_position p xs i e in
        position_at r xs i found.0 found.1 (by_left found.0 found.2)
        (λ k x lt there. neither x (before_position p xs i e k x lt there) (no_position q xs f k x there))
        ∙ sym (ap (λ (o : Option ℕ). lesser o (position q xs)) e ∙ ap (λ (u : Option ℕ). lesser (Some i) u) f)
    by (Some i) e (Some j) f = by_order (leb i j) refl
      where
        to_lesser : lesser (position p xs) (position q xs) ≡ lesser (Some i) (Some j)
        to_lesser = ap (λ (o : Option ℕ). lesser o (position q xs)) e ∙ ap (λ (u : Option ℕ). lesser (Some i) u) f

        by_order : (b : Bool) → leb i j ≡ b → position r xs ≡ lesser (position p xs) (position q xs)
        by_order true le =
            let found = at_position p xs i e in
            position_at r xs i found.0 found.1 (by_left found.0 found.2)
            (λ k x lt there. neither x (before_position p xs i e k x lt there)
            (before_position q xs j f k x (omega (arith, lt, leb-true i j le)) there))
            ∙ sym (to_lesser ∙ ap (λ (b : Bool). cond b (Some i) (Some j)) le)
        by_order false gt =
            let found = at_position q xs j f in
            position_at r xs j found.0 found.1 (by_right found.0 found.2)
            (λ k x lt there. neither x (before_position p xs i e k x (omega (arith, lt, leb-false i j gt)) there)
            (before_position q xs j f k x lt there))
            ∙ sym (to_lesser ∙ ap (λ (b : Bool). cond b (Some i) (Some j)) gt)

pub one_more_key : (subject : List ℕ) (keys : List (List ℕ)) (key : List ℕ) (anchors : List Cert)
    → lesser (position (has_some_key subject keys) anchors) (position (has_key subject key) anchors)
    ≡ position (has_some_key subject (keys ++ key ∷ [])) anchors
one_more_key subject keys key anchors =
    sym (either_position (has_some_key subject keys) (has_key subject key) (has_some_key subject (keys ++ key ∷ []))
    anchors (more_keys subject keys key))

pub taken_more : (keys : List (List ℕ)) (index : ℕ) (key : List ℕ) → slice_get keys index ≡ Some key
    → take (index + 1) keys ≡ take index keys ++ key ∷ []
taken_more keys index key there =
    take_more keys index key (slice_get_within keys index key there)
    ∙ ap (λ (k : List ℕ). take index keys ++ k ∷ []) (get_or_from_slice_get keys index key key there)

pub some_there : (keys : List (List ℕ)) (index : ℕ) → index < length keys → slice_get keys index ≡ None → ⊥
some_there keys index lt none = let some = slice_get-get_or keys index [] lt in absurd (cc (some, none))
