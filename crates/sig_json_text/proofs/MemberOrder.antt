-- The members of a canonical text stand in the ascending order of their names' units, and each is there once.
use Rattle.std.proofs.Common.{◌≡◌, ◌≢◌, ◌<◌, ◌⊎◌, ◌↔◌, ℕ, zero, suc, List, [], ◌∷◌, ◌++◌, length, get_or, Some, inl}
use Rattle.std.proofs.Common.{inr, refl, sym, ap, subst, ◌∙◌, arith}
use Rattle.std.proofs.lemmas.Cmp.{nat_list_cmp_total, tied_itself}
use Rattle.std.proofs.lemmas.List.{append-nil}
use Rattle.std.proofs.lemmas.List.Sorted.{IsPermutation-refl, IsPermutation-sym, IsPermutation-trans}
use Rattle.std.proofs.lemmas.List.Sorted.{IsPermutation-cons, IsPermutation-middle, IsPermutation-append_right}
use Rattle.std.proofs.lemmas.List.Sorted.{Contains-permutation}
use Rattle.std.proofs.lemmas.Map.Text.{is_eq-slice_cmp}
use Rattle.std.proofs.lemmas.Slice.Eq.{bytes_eq-Decides}
use Rattle.std.specs.BTreeMap.{insert_entry}
use Rattle.std.specs.Cmp.{IsTotalOrder}
use Rattle.std.specs.Cmp.Lexicographic.{slice_cmp}
use Rattle.std.specs.List.{AllByRecursion, Contains}
use Rattle.std.specs.List.Sorted.{IsPermutation, IsStrictlySortedBy}
use Rattle.std.specs.Map.{keys_of, values_of}
use Rattle.std.specs.Ordering.{nat_cmp, is_eq, match_ordering}
use Rattle.std.specs.Prelude.{codes}
use Rattle.std.specs.Str.{IsUtf8}
use Rattle.std.specs.declared.cmp.Ordering.{Ordering}
use Rattle.std.specs.declared.cmp.Ordering.TheVariants.{Less, Equal, Greater}
use Rattle.serde_json.specs.Data.{Data, Members, no_members, member, object}
use Rattle.sig_base.proofs.AscendingKeys.{all_keys, ascend-insert_entry}
use Rattle.sig_base.proofs.OptionSteps.{bind_is, bind_of_some, some_is}
use Rattle.sig_json_text.specs.Canonical.{Sorted, canon, canon_string, canon_members, in_braces, with_text, utf16_units}
use Rattle.sig_json.specs.Members.{members_list}
use Rattle.sig_json.specs.NamedTree.{HasNames}
use Rattle.sig_json_text.specs.Order.{member_texts, UnitsAscend, IsSorting}
use Rattle.sig_json_text.proofs.Units.{units_distinct}

-- ---- members, one after another

ascend-with_text : (sorted : Sorted) (name text : List ℕ) → UnitsAscend sorted
    → UnitsAscend (with_text sorted name text)
unfolding with_text
ascend-with_text sorted name text up =
    ascend-insert_entry (slice_cmp nat_cmp) nat_list_cmp_total sorted (utf16_units name)
    (canon_string name ++ (codes ":" ++ text)) up

ascend-from : (ms : Members) (before sorted : Sorted) → UnitsAscend before → canon_members ms before ≡ Some sorted
    → UnitsAscend sorted
ascend-from no_members before sorted up is = let same : before ≡ sorted = cc in subst UnitsAscend same up
ascend-from (member name d ms) before sorted up is =
    let text = bind_is (canon d) _ sorted is in
    ascend-from ms (with_text before name text.0) sorted (ascend-with_text before name text.0 up) text.2

pub members_ascend : (ms : Members) (sorted : Sorted) → canon_members ms [] ≡ Some sorted → UnitsAscend sorted
unfolding IsStrictlySortedBy
members_ascend ms sorted is = ascend-from ms [] sorted tt is

-- ---- no member is lost

module _ {K V : Type 0} (R : K → K → Ordering) where
  -- an entry whose key is none of those that are there
  new-insert_entry : (es : List (K × V)) (k : K) (v : V) → AllByRecursion (λ y. R k y ≢ Equal) (keys_of es)
      → IsPermutation ((k, v) ∷ es) (insert_entry R es k v)
  new-insert_entry [] k v new = IsPermutation-refl ((k, v) ∷ [])
  new-insert_entry (e ∷ es) k v new = by (R k e.0) refl (new-insert_entry es k v new.1) where
    by : (o : Ordering) → R k e.0 ≡ o → IsPermutation ((k, v) ∷ es) (insert_entry R es k v)
        → IsPermutation ((k, v) ∷ e ∷ es)
        (match_ordering o ((k, v) ∷ e ∷ es) ((e.0, v) ∷ es) (e ∷ insert_entry R es k v))
    by Less is rest = IsPermutation-refl ((k, v) ∷ e ∷ es)
    by Equal is rest = absurd (new.0 is)
    by Greater is rest =
        IsPermutation-trans _ _ _ (IsPermutation-sym _ _ (IsPermutation-middle (e ∷ []) (k, v) es))
        (IsPermutation-cons e ((k, v) ∷ es) (insert_entry R es k v) rest)

abbrev Unlike : List ℕ → Sorted → Type 0
Unlike name sorted = AllByRecursion (λ units. slice_cmp nat_cmp (utf16_units name) units ≢ Equal) (keys_of sorted)

pub same_units : (one other : List ℕ) → IsUtf8 one → IsUtf8 other
    → slice_cmp nat_cmp (utf16_units one) (utf16_units other) ≡ Equal → one ≡ other
same_units one other one_utf8 other_utf8 is =
    units_distinct one other one_utf8 other_utf8
    ((bytes_eq-Decides (utf16_units one) (utf16_units other)).0
    (sym (is_eq-slice_cmp (utf16_units one) (utf16_units other)) ∙ ap is_eq is))

-- none of the names is among the entries
abbrev AllNew : List (List ℕ) → Sorted → Type 0
AllNew names sorted = AllByRecursion (λ name. Unlike name sorted) names

all_new-more : (ms : Members) (name text : List ℕ) (before : Sorted) → IsUtf8 name → HasNames ms
    → AllByRecursion (λ other. name ≢ other) (keys_of (members_list ms)) → AllNew (keys_of (members_list ms)) before
    → AllNew (keys_of (members_list ms)) (with_text before name text)
unfolding with_text
all_new-more no_members name text before utf8 names other new = tt
all_new-more (member next d ms) name text before utf8 names other new = (
  all_keys (slice_cmp nat_cmp) (λ units. slice_cmp nat_cmp (utf16_units next) units ≢ Equal) before (utf16_units name)
      (canon_string name ++ (codes ":" ++ text)) new.0
      (λ same. other.0 (sym (same_units next name names.0 utf8 same))),
  all_new-more ms name text before utf8 names.2 other.1 new.1,
)

-- the texts of the members, with the entries that were there before
record IsGathered (ms : Members) (before sorted : Sorted) : Type 0 where
  texts : Sorted
  are : member_texts ms ≡ Some texts
  moved : IsPermutation (texts ++ before) sorted

gathered-more : (name : List ℕ) (d : Data) (ms : Members) (before sorted : Sorted) (text : List ℕ)
    → canon d ≡ Some text → Unlike name before → IsGathered ms (with_text before name text) sorted
    → IsGathered (member name d ms) before sorted
unfolding with_text
gathered-more name d ms before sorted text is new rest =
    let e : List ℕ × List ℕ = (utf16_units name, canon_string name ++ (codes ":" ++ text)) in
    record {
      texts = e ∷ rest.texts;
      are = rw (is, rest.are) refl;
      moved = IsPermutation-trans _ _ _ (IsPermutation-sym _ _ (IsPermutation-middle rest.texts e before))
          (IsPermutation-trans _ _ _ (IsPermutation-append_right rest.texts (e ∷ before) (with_text before name text)
          (new-insert_entry (slice_cmp nat_cmp) before e.0 e.1 new)) rest.moved);
    }

gathered-from : (ms : Members) (before sorted : Sorted) → HasNames ms → AllNew (keys_of (members_list ms)) before
    → canon_members ms before ≡ Some sorted → IsGathered ms before sorted
gathered-from no_members before sorted names new is =
    let same : before ≡ sorted = cc in record {
      texts = [];
      are = refl;
      moved = subst (IsPermutation before) same (IsPermutation-refl before);
    }
gathered-from (member name d ms) before sorted names new is =
    let text = bind_is (canon d) _ sorted is in
    gathered-more name d ms before sorted text.0 text.1 new.0
    (gathered-from ms (with_text before name text.0) sorted names.2
    (all_new-more ms name text.0 before names.0 names.2 names.1 new.1) text.2)

none_before : (names : List (List ℕ)) → AllNew names []
none_before [] = tt
none_before (name ∷ names) = (tt, none_before names)

pub members_whole : (ms : Members) → HasNames ms → (sorted : Sorted) → canon_members ms [] ≡ Some sorted
    → IsSorting ms sorted
members_whole ms names sorted is =
    let all = gathered-from ms [] sorted names (none_before (keys_of (members_list ms))) is in
    record {
      texts = all.texts;
      are = all.are;
      moved = subst (λ l. IsPermutation l sorted) (append-nil all.texts) all.moved;
      ascend = members_ascend ms sorted is;
    }

-- ---- entries that ascend are so in one way alone

module _ {X : Type 0} where
  abbrev Among : X → List X → Type 0
  Among x [] = ⊥
  Among x (y ∷ ys) = (x ≡ y) ⊎ Among x ys

  among_at : (xs : List X) (x : X) (k : ℕ) → k < length xs → get_or xs k x ≡ x → Among x xs
  among_at [] x k within is = omega arith
  among_at (y ∷ xs) x zero within is = inl (sym is)
  among_at (y ∷ xs) x (suc k) within is = inr (among_at xs x k (omega arith) is)

  contains_among : (xs : List X) (x : X) → Among x xs → Contains xs x
  contains_among [] x among = absurd among
  contains_among (y ∷ xs) x (inl same) = (zero, omega arith, sym same)
  contains_among (y ∷ xs) x (inr later) =
      let place = contains_among xs x later in (suc place.0, omega (arith, place.1), place.2)

  among_moved : (xs ys : List X) (x : X) → IsPermutation xs ys → Among x xs → Among x ys
  among_moved xs ys x moved among =
      let place = Contains-permutation xs ys x moved (contains_among xs x among) in
      among_at ys x place.0 place.1 place.2

module _ {K : Type 0} {R : K → K → Ordering} (total : IsTotalOrder R) where
  never_below_itself : (k : K) → R k k ≡ Less → ⊥
  never_below_itself k below = let tied : R k k ≡ Equal = tied_itself total k in cc

module _ {K V : Type 0} (R : K → K → Ordering) (total : IsTotalOrder R) where
  below_among : (k : K) (es : List (K × V)) (e : K × V) → AllByRecursion (λ y. R k y ≡ Less) (keys_of es) → Among e es
      → R k e.0 ≡ Less
  below_among k [] e all among = absurd among
  below_among k (x ∷ es) e all (inl same) = ap (λ y. R k y.0) same ∙ all.0
  below_among k (x ∷ es) e all (inr later) = below_among k es e all.1 later

  same_head : (x y : K × V) (xs ys : List (K × V)) → AllByRecursion (λ k. R x.0 k ≡ Less) (keys_of xs)
      → AllByRecursion (λ k. R y.0 k ≡ Less) (keys_of ys) → (x ≡ y) ⊎ Among x ys → (y ≡ x) ⊎ Among y xs → x ≡ y
  same_head x y xs ys least other_least (inl same) back = same
  same_head x y xs ys least other_least (inr later) (inl same) = sym same
  same_head x y xs ys least other_least (inr later) (inr after) =
      absurd (never_below_itself total x.0
      (total.trans x.0 y.0 x.0 (below_among x.0 xs y least after) (below_among y.0 ys x other_least later)))

  -- an entry of the one that is not its head is not a head of the other
  later_there : (x y : K × V) (xs ys : List (K × V)) (e : K × V) → AllByRecursion (λ k. R x.0 k ≡ Less) (keys_of xs)
      → x ≡ y → Among e xs → (e ≡ y) ⊎ Among e ys → Among e ys
  later_there x y xs ys e least heads among (inl same) =
      absurd (never_below_itself total x.0 (ap (λ z. R x.0 z.0) (heads ∙ sym same) ∙ below_among x.0 xs e least among))
  later_there x y xs ys e least heads among (inr later) = later

  one_order : (xs ys : List (K × V)) → IsStrictlySortedBy R (keys_of xs) → IsStrictlySortedBy R (keys_of ys)
      → ((e : K × V) → Among e xs → Among e ys) → ((e : K × V) → Among e ys → Among e xs) → xs ≡ ys
  unfolding IsStrictlySortedBy
  one_order [] [] up also there back = refl
  one_order [] (y ∷ ys) up also there back = absurd (back y (inl refl))
  one_order (x ∷ xs) [] up also there back = absurd (there x (inl refl))
  one_order (x ∷ xs) (y ∷ ys) up also there back =
      let heads : x ≡ y = same_head x y xs ys up.0 also.0 (there x (inl refl)) (back y (inl refl)) in
      let rest : xs ≡ ys =
      one_order xs ys up.1 also.1
      (λ e among. later_there x y xs ys e up.0 heads among (there e (inr among)))
      (λ e among. later_there y x ys xs e also.0 (sym heads) among (back e (inr among))) in
      cc

one_in_order : (ms : Members) (sorted other : Sorted) → IsSorting ms sorted → IsSorting ms other → sorted ≡ other
one_in_order ms sorted other a b =
    let same : a.texts ≡ b.texts = some_is a.texts b.texts (sym a.are ∙ b.are) in
    let moved : IsPermutation sorted other =
    IsPermutation-trans _ _ _ (IsPermutation-sym _ _ a.moved)
    (subst (λ texts. IsPermutation texts other) (sym same) b.moved) in
    one_order (slice_cmp nat_cmp) nat_list_cmp_total sorted other a.ascend b.ascend
    (λ e. among_moved sorted other e moved)
    (λ e. among_moved other sorted e (IsPermutation-sym _ _ moved))

-- where each member has a text, the object has one
some_sorted : (ms : Members) (before texts : Sorted) → member_texts ms ≡ Some texts
    → (sorted : Sorted) × (canon_members ms before ≡ Some sorted)
some_sorted no_members before texts are = (before, refl)
some_sorted (member name d ms) before texts are =
    let text = bind_is (canon d) _ texts are in
    let others = bind_is (member_texts ms) _ texts text.2 in
    let rest = some_sorted ms (with_text before name text.0) others.0 others.1 in
    (rest.0, bind_of_some (canon d) _ text.0 text.1 ∙ rest.1)

sorted_from_order : (ms : Members) → HasNames ms → (sorted : Sorted) → IsSorting ms sorted
    → canon_members ms [] ≡ Some sorted
sorted_from_order ms names sorted order =
    let found = some_sorted ms [] order.texts order.are in
    found.1 ∙ ap Some (one_in_order ms found.0 sorted (members_whole ms names found.0 found.1) order)

pub members_exact : (ms : Members) → HasNames ms → (sorted : Sorted)
    → (canon_members ms [] ≡ Some sorted) ↔ IsSorting ms sorted
members_exact ms names sorted = (members_whole ms names sorted, sorted_from_order ms names sorted)

pub object_exact : (ms : Members) → HasNames ms → (text : List ℕ)
    → (canon (object ms) ≡ Some text)
    ↔ ((sorted : Sorted) × IsSorting ms sorted × (text ≡ in_braces (values_of sorted)))
object_exact ms names text =
    (there, back) where
      there : canon (object ms) ≡ Some text
          → (sorted : Sorted) × IsSorting ms sorted × (text ≡ in_braces (values_of sorted))
      there is =
          let found = bind_is (canon_members ms []) _ text is in
          (found.0, members_whole ms names found.0 found.1, some_is text (in_braces (values_of found.0)) (sym found.2))

      back : (sorted : Sorted) × IsSorting ms sorted × (text ≡ in_braces (values_of sorted))
          → canon (object ms) ≡ Some text
      back found =
          bind_of_some (canon_members ms []) _ found.0 (sorted_from_order ms names found.0 found.1)
          ∙ ap Some (sym found.2)
