-- A stable sort of members by name makes the same object.
use Rattle.std.proofs.Common.{◌≡◌, ◌<◌, ◌≤◌, ◌+◌, ℕ, zero, suc, Bool, true, false, not, ◌&&◌, List, [], ◌∷◌, ◌++◌}
use Rattle.std.proofs.Common.{length, get_or, set, drop, Option, Some, None, option_map, refl, sym, ap, subst, ◌∙◌, inl, inr, ◌⊎◌}
use Rattle.std.proofs.Common.{append_assoc, arith, slice_get}
use Rattle.std.proofs.lemmas.Cmp.{nat_list_cmp_total, nat_cmp_total, on_total, then_total, tied_itself}
use Rattle.std.proofs.lemmas.Option.{slice_get-get_or, slice_get-map}
use Rattle.std.proofs.lemmas.Bool.{cases_eq, and_parts, and_from}
use Rattle.std.proofs.lemmas.List.{length-append, at_drop_more, at_drop_all, get_or_default, get_or-set_other}
use Rattle.std.proofs.lemmas.List.Edits.{swapped_from_swap, length-swap}
use Rattle.std.proofs.lemmas.List.Elements.{All-from_recursion, recursion_from_All}
use Rattle.std.proofs.lemmas.List.Sorted.{All-permutation, IsPermutation-keeps}
use Rattle.std.specs.Cow.{cow_str_bytes}
use Rattle.std.specs.Cmp.{IsTotalOrder}
use Rattle.std.specs.Cmp.Lexicographic.{options_total}
use Rattle.std.specs.Option.{option_cmp}
use Rattle.std.specs.List.{All, AllByRecursion, filter, swap}
use Rattle.std.specs.List.Sorted.{IsStrictlySortedBy, IsPermutation, IsStableBy, IsStableByKey, ties}
use Rattle.std.specs.Map.{keys_of}
use Rattle.std.specs.Ordering.{nat_cmp, is_eq, is_lt, ordering_reverse, ordering_then}
use Rattle.std.specs.declared.borrow.CowStr.TheVariants.{Borrowed}
use Rattle.std.specs.declared.cmp.Ordering.{Ordering}
use Rattle.std.specs.declared.cmp.Ordering.TheVariants.{Less, Equal, Greater}
use Rattle.serde_json.specs.Data.{Data, Members, no_members, member, put}
use Rattle.serde_json.specs.Find.{get_member}
use Rattle.serde_json.proofs.Views.{get_member-put, get_member-put_other}
use Rattle.sig_base.specs.ByText.{KeysAscend}
use Rattle.sig_json.proofs.NamedTrees.{keys-put}
use Rattle.sig_json.proofs.OrderedMembers.{compare, same_from_tie, turned}
use Rattle.sig_json.specs.Gathered.{Entry, put_each, gathered}
use Rattle.sig_json.specs.Members.{members_list}
use Rattle.sig_base.specs.Rank.{rank_from}
use Rattle.sig_json.specs.Sorting.{ranked, entry_names, key_order, comes_first, entries_at, IsOrderOf}
use Rattle.sig_json.specs.View.{view, members_view}
use Rattle.sig_json.specs.declared.sort.Key.{Key}
use Rattle.sig_json.specs.declared.tree.Tree.{Null}

-- ---- members that ascend are what is found in them

absent : (name : List ℕ) (ms : Members) → AllByRecursion (λ other. compare name other ≡ Less) (keys_of (members_list ms))
    → get_member name ms ≡ None
absent name no_members all = refl
absent name (member l e ms) all = rw all.0 (absent name ms all.1)

below_all : (name k : List ℕ) (names : List (List ℕ)) → compare name k ≡ Less
    → AllByRecursion (λ other. compare k other ≡ Less) names → AllByRecursion (λ other. compare name other ≡ Less) names
below_all name k [] below all = tt
below_all name k (n ∷ ns) below all = (nat_list_cmp_total.trans name k n below all.0, below_all name k ns below all.1)

abbrev Above : List ℕ → Members → Type 0
Above k ms = AllByRecursion (λ other. compare k other ≡ Less) (keys_of (members_list ms))

first_is : (k : List ℕ) (d : Data) (ms : Members) → get_member k (member k d ms) ≡ Some d
first_is k d ms = rw (tied_itself nat_list_cmp_total k) refl

first_absent : (k l : List ℕ) (d e : Data) (ms ns : Members) → compare k l ≡ Less → Above l ns
    → get_member k (member k d ms) ≡ get_member k (member l e ns) → ⊥
first_absent k l d e ms ns below above same =
    let none : get_member k (member l e ns) ≡ None = rw below (absent k ns (below_all k l _ below above)) in
    let is : Some d ≡ None = sym (first_is k d ms) ∙ same ∙ none in
    cc

rest_same : (k : List ℕ) (d e : Data) (ms ns : Members) → Above k ms → Above k ns
    → ((name : List ℕ) → get_member name (member k d ms) ≡ get_member name (member k e ns)) → (name : List ℕ)
    → get_member name ms ≡ get_member name ns
rest_same k d e ms ns above other same name =
    elim (compare name k) as (λ o. compare name k ≡ o → get_member name ms ≡ get_member name ns) [
      | Less ↦ λ is. rw is at (same name)
      | Equal ↦ λ is. let at = same_from_tie name k is in
          rw at (absent k ms above ∙ sym (absent k ns other))
      | Greater ↦ λ is. rw is at (same name)
    ] refl

pub same_lookups : (ms ns : Members) → KeysAscend (members_list ms) → KeysAscend (members_list ns)
    → ((name : List ℕ) → get_member name ms ≡ get_member name ns) → ms ≡ ns
unfolding IsStrictlySortedBy
same_lookups no_members no_members up others same = refl
same_lookups no_members (member l e ns) up others same =
    let is : None ≡ Some e = same l ∙ first_is l e ns in absurd cc
same_lookups (member k d ms) no_members up others same =
    let is : Some d ≡ None = sym (first_is k d ms) ∙ same k in absurd cc
same_lookups (member k d ms) (member l e ns) up others same =
    elim (compare k l) as (λ o. compare k l ≡ o → member k d ms ≡ member l e ns) [
      | Less ↦ λ is. absurd (first_absent k l d e ms ns is others.0 (same k))
      | Equal ↦ λ is.
          let at : k ≡ l = same_from_tie k l is in
          let here = subst (λ k. Above k ms) at up.0 in
          let alike = subst (λ k. (name : List ℕ) → get_member name (member k d ms) ≡ get_member name (member l e ns)) at same in
          let value : Some d ≡ Some e = sym (first_is l d ms) ∙ alike l ∙ first_is l e ns in
          let rest = same_lookups ms ns up.1 others.1 (rest_same l d e ms ns here others.0 alike) in
          ap (λ k. member k d ms) at ∙ ap (λ ms. member l d ms) rest ∙ ap (λ d. member l d ns) (some_same d e value)
      | Greater ↦ λ is.
          absurd (first_absent l k e d ns ms (turned l k Greater is) up.0 (sym (same l)))
    ] refl where
      some_same : (d e : Data) → Some d ≡ Some e → d ≡ e
      some_same d e is = cc

-- ---- what is found is the last of its name

abbrev has : List ℕ → Entry → Bool
has name e = is_eq (compare (cow_str_bytes e.0) name)

abbrev last_of : Option Data → List Entry → Option Data
last_of before [] = before
last_of before (e ∷ es) = last_of (Some (view e.1)) es

found_in_each : (name : List ℕ) (es : List Entry) (ms : Members)
    → get_member name (put_each es ms) ≡ last_of (get_member name ms) (filter (has name) es)
found_in_each name [] ms = refl
found_in_each name (e ∷ es) ms =
    let rest = found_in_each name es (put (cow_str_bytes e.0) (view e.1) ms) in
    elim (compare (cow_str_bytes e.0) name) as
    (λ o. compare (cow_str_bytes e.0) name ≡ o
    → get_member name (put_each (e ∷ es) ms) ≡ last_of (get_member name ms) (filter (has name) (e ∷ es))) [
      | Less ↦ λ is. rw is (rest ∙ ap (λ found. last_of found (filter (has name) es))
          (get_member-put_other name (cow_str_bytes e.0) (view e.1) ms
          (differ (cow_str_bytes e.0) (λ tie. let both : Less ≡ Equal = sym is ∙ tie in cc))))
      | Equal ↦ λ is. rw is (rest ∙ ap (λ found. last_of found (filter (has name) es))
          (ap (λ other. get_member other (put (cow_str_bytes e.0) (view e.1) ms)) (sym (same_from_tie _ name is))
          ∙ get_member-put (cow_str_bytes e.0) (view e.1) ms))
      | Greater ↦ λ is. rw is (rest ∙ ap (λ found. last_of found (filter (has name) es))
          (get_member-put_other name (cow_str_bytes e.0) (view e.1) ms
          (differ (cow_str_bytes e.0) (λ tie. let both : Greater ≡ Equal = sym is ∙ tie in cc))))
    ] refl where
      differ : (other : List ℕ) → (compare other name ≡ Equal → ⊥) → name ≡ other → ⊥
      differ other never same = never (ap (compare other) same ∙ tied_itself nat_list_cmp_total other)

ascend_each : (es : List Entry) (ms : Members) → KeysAscend (members_list ms)
    → KeysAscend (members_list (put_each es ms))
ascend_each [] ms up = up
ascend_each (e ∷ es) ms up = ascend_each es _ (keys-put (cow_str_bytes e.0) (view e.1) ms up)

gathered_ascend : (es : List Entry) → KeysAscend (members_list (gathered es))
unfolding IsStrictlySortedBy
gathered_ascend es = ascend_each es no_members tt

pub same_gathered : (es others : List Entry) → ((name : List ℕ) → filter (has name) others ≡ filter (has name) es)
    → gathered others ≡ gathered es
same_gathered es others same =
    same_lookups (gathered others) (gathered es) (gathered_ascend others) (gathered_ascend es) (λ name.
    found_in_each name others no_members ∙ ap (last_of None) (same name) ∙ sym (found_in_each name es no_members))

-- ---- the order of keys

pub key_order_total : (names : List (List ℕ)) → IsTotalOrder (key_order names)
unfolding key_order
key_order_total names =
    then_total (on_total (λ key. key.rank) nat_cmp_total)
    (on_total (λ key. slice_get names key.index) (options_total nat_list_cmp_total))

-- the key of a member, whose rank is of its name from a byte on
abbrev name_at : Entry → List Entry → Key → List ℕ
name_at d es key = cow_str_bytes (get_or es key.index d).0

abbrev IsKey : ℕ → List Entry → Key → Type 0
IsKey from es key = (key.index < length es) × ((d : Entry) → key.rank ≡ rank_from from (name_at d es key))

same_last : (o p : Ordering) → (p ≡ Equal → o ≡ Equal) → is_eq (ordering_then o p) ≡ is_eq p
same_last Less Less f = refl
same_last Less Equal f = let e = f refl in cc
same_last Less Greater f = refl
same_last Equal p f = refl
same_last Greater Less f = refl
same_last Greater Equal f = let e = f refl in cc
same_last Greater Greater f = refl

tie_from : (o p : Ordering) → p ≡ ordering_reverse o → (not (is_lt o) && not (is_lt p)) ≡ is_eq o
tie_from Less p is = refl
tie_from Equal p is = rw is refl
tie_from Greater p is = rw is refl

same_turned : (one other : List ℕ) → is_eq (compare one other) ≡ is_eq (compare other one)
same_turned one other = rw (nat_list_cmp_total.antisymm one other) (reversed (compare other one)) where
  reversed : (o : Ordering) → is_eq (ordering_reverse o) ≡ is_eq o
  reversed Less = refl
  reversed Equal = refl
  reversed Greater = refl

name_found : (from : ℕ) (d : Entry) (es : List Entry) (key : Key) → IsKey from es key
    → slice_get (entry_names es) key.index ≡ Some (name_at d es key)
name_found from d es key is =
    slice_get-map (λ e. cow_str_bytes e.0) es key.index
    ∙ ap (option_map (λ e. cow_str_bytes e.0)) (slice_get-get_or es key.index d is.0)

-- two keys tie where their members have the same name
tied : (from : ℕ) (d : Entry) (es : List Entry) (one other : Key) → IsKey from es one → IsKey from es other
    → ties (comes_first (entry_names es)) one other ≡ has (name_at d es one) (get_or es other.index d)
unfolding key_order
tied from d es one other is are =
    tie_from _ _ ((key_order_total (entry_names es)).antisymm other one)
    ∙ ap (λ (o : Ordering). is_eq (ordering_then o by_names))
    (ap (λ (r : ℕ). nat_cmp r other.rank) (is.1 d) ∙ ap (λ (r : ℕ). nat_cmp (rank_from from (name_at d es one)) r) (are.1 d))
    ∙ ap (λ (p : Ordering). is_eq (ordering_then ranks p))
    (ap (λ (name : Option (List ℕ)). option_cmp compare name (slice_get (entry_names es) other.index))
    (name_found from d es one is)
    ∙ ap (λ (name : Option (List ℕ)). option_cmp compare (Some (name_at d es one)) name) (name_found from d es other are))
    ∙ same_last ranks (compare (name_at d es one) (name_at d es other)) alike
    ∙ same_turned (name_at d es one) (name_at d es other) where
      by_names : Ordering
      by_names =
          option_cmp compare (slice_get (entry_names es) one.index) (slice_get (entry_names es) other.index)

      ranks : Ordering
      ranks = nat_cmp (rank_from from (name_at d es one)) (rank_from from (name_at d es other))

      alike : compare (name_at d es one) (name_at d es other) ≡ Equal → ranks ≡ Equal
      alike tie =
          ap (λ (name : List ℕ). nat_cmp (rank_from from name) (rank_from from (name_at d es other))) (same_from_tie _ _ tie)
          ∙ tied_itself nat_cmp_total (rank_from from (name_at d es other))

-- ---- members by their keys

abbrev AreKeys : ℕ → List Entry → List Key → Type 0
AreKeys from es keys = AllByRecursion (IsKey from es) keys

-- the members of a name are those of the keys that tie with its key
of_name : (from : ℕ) (d : Entry) (es : List Entry) (one : Key) (keys : List Key) → IsKey from es one → AreKeys from es keys
    → filter (has (name_at d es one)) (entries_at d es keys)
    ≡ entries_at d es (filter (ties (comes_first (entry_names es)) one) keys)
of_name from d es one [] is are = refl
of_name from d es one (key ∷ keys) is are =
    let rest = of_name from d es one keys is are.1 in
    let same = tied from d es one key is are.0 in
    elim (has (name_at d es one) (get_or es key.index d)) as
    (λ b. has (name_at d es one) (get_or es key.index d) ≡ b
    → filter (has (name_at d es one)) (entries_at d es (key ∷ keys))
    ≡ entries_at d es (filter (ties (comes_first (entry_names es)) one) (key ∷ keys))) [
      | true ↦ λ yes. rw (yes, same ∙ yes) (ap (λ more. get_or es key.index d ∷ more) rest)
      | false ↦ λ no. rw (no, same ∙ no) rest
    ] refl

-- some key is of a member of this name, or none
any_of : (from : ℕ) (d : Entry) (es : List Entry) (name : List ℕ) (keys : List Key) → AreKeys from es keys
    → ((key : Key) × IsKey from es key × (name_at d es key ≡ name)) ⊎ (filter (has name) (entries_at d es keys) ≡ [])
any_of from d es name [] are = inr refl
any_of from d es name (key ∷ keys) are =
    elim (compare (name_at d es key) name) as
    (λ o. compare (name_at d es key) name ≡ o
    → ((key : Key) × IsKey from es key × (name_at d es key ≡ name))
    ⊎ (filter (has name) (entries_at d es (key ∷ keys)) ≡ [])) [
      | Less ↦ λ is. rw is (any_of from d es name keys are.1)
      | Equal ↦ λ is. inl (key, are.0, same_from_tie _ name is)
      | Greater ↦ λ is. rw is (any_of from d es name keys are.1)
    ] refl

stays : (from : ℕ) (d : Entry) (es : List Entry) (keys others : List Key) → AreKeys from es keys → AreKeys from es others
    → IsStableBy (comes_first (entry_names es)) keys others → (name : List ℕ)
    → filter (has name) (entries_at d es others) ≡ filter (has name) (entries_at d es keys)
stays from d es keys others are were stable name =
    elim (any_of from d es name others were) [
      | inl found ↦ by_key found
      | inr none ↦ elim (any_of from d es name keys are) [
        | inl found ↦ by_key found
        | inr nor ↦ none ∙ sym nor
      ]
    ] where
      by_key : ((key : Key) × IsKey from es key × (name_at d es key ≡ name))
          → filter (has name) (entries_at d es others) ≡ filter (has name) (entries_at d es keys)
      by_key found =
          subst (λ name. filter (has name) (entries_at d es others) ≡ filter (has name) (entries_at d es keys)) found.2
          (of_name from d es found.0 others found.1 were ∙ ap (entries_at d es) (stable found.0)
          ∙ sym (of_name from d es found.0 keys found.1 are))

-- ---- a sort by rank before the sort by name

filter_within : (p q : Key → Bool) → ((key : Key) → p key ≡ true → q key ≡ true) → (keys : List Key)
    → filter p (filter q keys) ≡ filter p keys
filter_within p q passes [] = refl
filter_within p q passes (key ∷ keys) =
    let rest = filter_within p q passes keys in
    elim (p key) as (λ b. p key ≡ b → filter p (filter q (key ∷ keys)) ≡ filter p (key ∷ keys)) [
      | true ↦ λ yes. rw (passes key yes, yes) (ap (λ (more : List Key). key ∷ more) rest)
      | false ↦ λ no. elim (q key) as (λ c. q key ≡ c → filter p (filter q (key ∷ keys)) ≡ filter p (key ∷ keys)) [
        | true ↦ λ kept. rw (kept, no) rest
        | false ↦ λ dropped. rw (dropped, no) rest
      ] refl
    ] refl

first_of_then : (r p : Ordering) → not (is_lt (ordering_then r p)) ≡ true → not (is_lt r) ≡ true
first_of_then Less p is = is
first_of_then Equal p is = refl
first_of_then Greater p is = refl

abbrev lower_rank : Key → Key → Bool
lower_rank one other = is_lt (nat_cmp one.rank other.rank)

-- keys of the same name have the same rank
ranks_tie : (names : List (List ℕ)) (one other : Key) → ties (comes_first names) one other ≡ true
    → ties lower_rank one other ≡ true
unfolding key_order
ranks_tie names one other is =
    let parts = and_parts _ _ is in
    and_from _ _ (first_of_then _ _ parts.0) (first_of_then _ _ parts.1)

pub stable_by_both : (names : List (List ℕ)) (before between after : List Key)
    → IsStableByKey (λ key. key.rank) nat_cmp before between → IsStableBy (comes_first names) between after
    → IsStableBy (comes_first names) before after
stable_by_both names before between after by_rank by_name one =
    by_name one ∙ sym (filter_within (ties (comes_first names) one) (ties lower_rank one) (ranks_tie names one) between)
    ∙ ap (filter (ties (comes_first names) one)) (by_rank one)
    ∙ filter_within (ties (comes_first names) one) (ties lower_rank one) (ranks_tie names one) before

-- ---- the keys before the sort

here : (done : List Entry) (e : Entry) (rest : List Entry) (d : Entry) → get_or (done ++ e ∷ rest) (length done) d ≡ e
here [] e rest d = refl
here (x ∷ done) e rest d = here done e rest d

are_ranked : (from : ℕ) (es done rest : List Entry) (n : ℕ) → es ≡ done ++ rest → n ≡ length done
    → AreKeys from es (ranked from n (entry_names rest))
are_ranked from es done [] n is at = tt
are_ranked from es done (e ∷ rest) n is at = (
  (
    omega (arith, ap length is, length-append done (e ∷ rest), at),
    λ d. let found : get_or es n d ≡ e = rw (is, at) (here done e rest d) in
        ap (λ (e : Entry). rank_from from (cow_str_bytes e.0)) (sym found),
  ),
  are_ranked from es (done ++ e ∷ []) rest (suc n) (is ∙ sym (append_assoc done (e ∷ []) rest))
      (omega (arith, length-append done (e ∷ []), at)),
)

entries_ranked : (from : ℕ) (d : Entry) (es done rest : List Entry) (n : ℕ) → es ≡ done ++ rest → n ≡ length done
    → entries_at d es (ranked from n (entry_names rest)) ≡ rest
entries_ranked from d es done [] n is at = refl
entries_ranked from d es done (e ∷ rest) n is at =
    let found : get_or es n d ≡ e = rw (is, at) (here done e rest d) in
    ap (λ (first : Entry). first ∷ entries_at d es (ranked from (suc n) (entry_names rest))) found
    ∙ ap (λ (more : List Entry). e ∷ more) (entries_ranked from d es (done ++ e ∷ []) rest (suc n) (is ∙ sym (append_assoc done (e ∷ []) rest))
    (omega (arith, length-append done (e ∷ []), at)))

index_ranked : (from : ℕ) (names : List (List ℕ)) (n i : ℕ) (key : Key) → i < length (ranked from n names)
    → (get_or (ranked from n names) i key).index ≡ n + i
index_ranked from [] n i key within = absurd (omega arith)
index_ranked from (name ∷ names) n zero key within = omega arith
index_ranked from (name ∷ names) n (suc i) key within = index_ranked from names (suc n) i key (omega arith) ∙ omega arith

-- ---- no two of the same member

abbrev Differ : List Key → Type 0
Differ keys = (i j : ℕ) (key : Key) → i < length keys → j < length keys
    → (get_or keys i key).index ≡ (get_or keys j key).index → i ≡ j

-- where the element at i was before a and b changed places
abbrev Moves : ℕ → ℕ → ℕ → ℕ → Type 0
Moves a b i was = ((i ≡ a) × (was ≡ b)) ⊎ (((i ≡ b) × (was ≡ a)) ⊎ ((i ≡ a → ⊥) × (i ≡ b → ⊥) × (was ≡ i)))

source : (a b i : ℕ) → (was : ℕ) × Moves a b i was
source a b i =
    elim (cases_eq i a) [
      | inl first ↦ (b, inl (first, refl))
      | inr unlike ↦ elim (cases_eq i b) [
        | inl second ↦ (a, inr (inl (second, refl)))
        | inr nor ↦ (i, inr (inr (unlike, nor, refl)))
      ]
    ]

same_source : (a b i j was other : ℕ) → Moves a b i was → Moves a b j other → was ≡ other → i ≡ j
same_source a b i j was other (inl x) (inl y) e = x.0 ∙ sym y.0
same_source a b i j was other (inl x) (inr (inl y)) e = x.0 ∙ sym y.1 ∙ sym e ∙ x.1 ∙ sym y.0
same_source a b i j was other (inl x) (inr (inr y)) e = absurd (y.1 (sym y.2 ∙ sym e ∙ x.1))
same_source a b i j was other (inr (inl x)) (inl y) e = x.0 ∙ sym y.1 ∙ sym e ∙ x.1 ∙ sym y.0
same_source a b i j was other (inr (inl x)) (inr (inl y)) e = x.0 ∙ sym y.0
same_source a b i j was other (inr (inl x)) (inr (inr y)) e = absurd (y.0 (sym y.2 ∙ sym e ∙ x.1))
same_source a b i j was other (inr (inr x)) (inl y) e = absurd (x.1 (sym x.2 ∙ e ∙ y.1))
same_source a b i j was other (inr (inr x)) (inr (inl y)) e = absurd (x.0 (sym x.2 ∙ e ∙ y.1))
same_source a b i j was other (inr (inr x)) (inr (inr y)) e = sym x.2 ∙ e ∙ y.2

source_within : (a b i was n : ℕ) → a < n → b < n → i < n → Moves a b i was → was < n
source_within a b i was n first second within (inl x) = omega (arith, x.1)
source_within a b i was n first second within (inr (inl x)) = omega (arith, x.1)
source_within a b i was n first second within (inr (inr x)) = omega (arith, x.2)

was_at : (keys : List Key) (a b i was : ℕ) (key : Key) → a < length keys → b < length keys → Moves a b i was
    → get_or (swap keys a b) i key ≡ get_or keys was key
was_at keys a b i was key first second (inl x) =
    rw (x.0, x.1) ((swapped_from_swap keys _ a b key first second refl).0)
was_at keys a b i was key first second (inr (inl x)) =
    rw (x.0, x.1) ((swapped_from_swap keys _ a b key first second refl).1)
was_at keys a b i was key first second (inr (inr x)) =
    rw x.2 ((swapped_from_swap keys _ a b key first second refl).2 i x.0 x.1)

differ_swapped : (keys : List Key) (a b : ℕ) → a < length keys → b < length keys → Differ keys → Differ (swap keys a b)
differ_swapped keys a b first second differ i j key within also same =
    let x = source a b i in
    let y = source a b j in
    let long = length-swap keys a b in
    same_source a b i j x.0 y.0 x.1 y.1 (differ x.0 y.0 key
    (source_within a b i x.0 (length keys) first second (omega arith) x.1)
    (source_within a b j y.0 (length keys) first second (omega arith) y.1)
    (ap (λ k. k.index) (sym (was_at keys a b i x.0 key first second x.1)) ∙ same
    ∙ ap (λ k. k.index) (was_at keys a b j y.0 key first second y.1)))

differ_ranked : (from : ℕ) (names : List (List ℕ)) → Differ (ranked from 0 names)
differ_ranked from names i j key within also same =
    omega (arith, index_ranked from names 0 i key within, same, index_ranked from names 0 j key also)

-- ---- what the sort makes of the keys

module _ (from : ℕ) (es : List Entry) (keys : List Key) (moved : IsPermutation (ranked from 0 (entry_names es)) keys)
    (stable : IsStableBy (comes_first (entry_names es)) (ranked from 0 (entry_names es)) keys) where
  first_keys : AreKeys from es (ranked from 0 (entry_names es))
  first_keys = are_ranked from es [] es 0 refl refl

  are_keys : All (IsKey from es) keys
  are_keys = All-permutation (IsKey from es) _ keys moved (All-from_recursion (IsKey from es) _ first_keys)

  pub order_is : IsOrderOf es keys
  order_is = record {
    within = λ i key inside. (are_keys i key inside).0;
    apart = IsPermutation-keeps _ Differ (differ_ranked from (entry_names es)) differ_swapped keys moved;
    same =
        λ d. same_gathered es (entries_at d es keys) (λ name.
        stays from d es (ranked from 0 (entry_names es)) keys first_keys (recursion_from_All (IsKey from es) keys are_keys)
        stable name ∙ ap (filter (has name)) (entries_ranked from d es [] es 0 refl refl));
  }

-- ---- one key more

module _ (es members : List Entry) (keys : List Key) (i : ℕ) (key : Key) (inside : i < length keys) where
  pub next_left : (d taken : Entry) (ordered after : List Entry) → taken ≡ get_or es (get_or keys i key).index d
      → members_view after ≡ put (cow_str_bytes taken.0) (view taken.1) (members_view ordered)
      → put_each (entries_at d es (drop i keys)) (members_view ordered) ≡ gathered es
      → put_each (entries_at d es (drop (i + 1) keys)) (members_view after) ≡ gathered es
  next_left d taken ordered after is put_in left =
      ap (put_each (entries_at d es (drop (i + 1) keys)))
      (put_in ∙ ap (λ (e : Entry). put (cow_str_bytes e.0) (view e.1) (members_view ordered)) is)
      ∙ sym (at_drop_more (λ ks. put_each (entries_at d es ks) (members_view ordered)) keys i key inside) ∙ left

  pub next_kept : IsOrderOf es keys → (left : Entry) (j : ℕ) (other : Key) (d : Entry) → i + 1 ≤ j → j < length keys
      → get_or members (get_or keys j other).index d ≡ get_or es (get_or keys j other).index d
      → get_or (set members (get_or keys i key).index left) (get_or keys j other).index d
      ≡ get_or es (get_or keys j other).index d
  next_kept order left j other d from within kept =
      get_or-set_other members (get_or keys i key).index (get_or keys j other).index left d apart ∙ kept where
        apart : (get_or keys j other).index ≡ (get_or keys i key).index → ⊥
        apart same =
            let first = ap (λ (k : Key). k.index) (get_or_default keys i key other inside) in
            let at : j ≡ i = order.apart j i other within inside (same ∙ first) in
            absurd (omega arith)

-- what there is where no other is asked for
pub no_entry : Entry
no_entry = (Borrowed (record { ref_ptr = (0, 0); now = [] }), Null)

pub none_left : (es : List Entry) (keys : List Key) (i : ℕ) (ordered : List Entry) → length keys ≤ i
    → put_each (entries_at no_entry es (drop i keys)) (members_view ordered) ≡ gathered es
    → members_view ordered ≡ gathered es
none_left es keys i ordered end left =
    sym (at_drop_all (λ ks. put_each (entries_at no_entry es ks) (members_view ordered)) keys i end) ∙ left
