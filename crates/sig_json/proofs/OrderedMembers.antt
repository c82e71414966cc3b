-- Members in the order of their names: what is found among them, what a change at a place makes of them, and how they
-- come into order.
use Rattle.std.proofs.Common.{◌≡◌, ◌<◌, ◌≤◌, ◌+◌, ℕ, zero, suc, true, List, [], ◌∷◌, ◌++◌, length, get_or, set}
use Rattle.std.proofs.Common.{Option, Some, None, Result, Ok, Err, Vec, Global, inl}
use Rattle.std.proofs.Common.{inr, refl, sym, ap, subst, ◌∙◌, append_assoc, append-nil, arith}
use Rattle.std.proofs.lemmas.Bool.{cases_lt}
use Rattle.std.proofs.lemmas.Cmp.{nat_list_cmp_total}
use Rattle.std.proofs.lemmas.Map.Text.{is_eq-slice_cmp}
use Rattle.std.proofs.lemmas.Slice.Eq.{bytes_eq-Decides}
use Rattle.std.specs.Cow.{cow_str_bytes}
use Rattle.std.specs.BTreeMap.{insert_entry}
use Rattle.std.specs.Cmp.Lexicographic.{slice_cmp}
use Rattle.std.specs.List.{AllByRecursion, AllAdjacentBelow, insert}
use Rattle.std.specs.List.Sorted.{IsStrictlySortedBy, IsNonDecreasingBy, IsBinarySearchResult, IsSearchInRange}
use Rattle.std.specs.Map.{keys_of}
use Rattle.std.specs.Ordering.{nat_cmp, is_eq, is_lt, ordering_index, ordering_reverse}
use Rattle.std.specs.declared.cmp.Ordering.{Ordering}
use Rattle.std.specs.declared.cmp.Ordering.TheVariants.{Less, Equal, Greater}
use Rattle.serde_json.specs.Data.{Data, Members, member, put}
use Rattle.serde_json.specs.Find.{get, get_member, get_item, at}
use Rattle.sig_json.proofs.OrderingChoices.{choice_of_each}
use Rattle.sig_json.proofs.NamedTrees.{keys-put}
use Rattle.sig_base.specs.ByText.{KeysAscend}
use Rattle.sig_json.specs.Gathered.{Entry, put_each, gathered, InOrder, IsPlaceOf}
use Rattle.sig_json.specs.Members.{members_list}
use Rattle.sig_json.specs.NamedTree.{IsNamedTree}
use Rattle.sig_json.specs.View.{Words, view, items_view, members_view}
use Rattle.sig_json.proofs.Trees.{view-Array, view-Object}
use Rattle.sig_json.specs.declared.tree.Tree.{Tree, Array, Object}

-- the order of names
abbrev pub compare : List ℕ → List ℕ → Ordering
compare = slice_cmp nat_cmp

pub same_from_tie : (name other : List ℕ) → compare name other ≡ Equal → name ≡ other
same_from_tie name other tie = (bytes_eq-Decides name other).0 (sym (is_eq-slice_cmp name other) ∙ ap is_eq tie)

pub turned : (name other : List ℕ) (o : Ordering) → compare other name ≡ o → compare name other ≡ ordering_reverse o
turned name other o is = nat_list_cmp_total.antisymm name other ∙ ap ordering_reverse is

-- ---- by place

-- what holds of the names of all members holds of the one at a place
at_place : (P : List ℕ → Type 0) (es : List Entry) (i : ℕ) (d : Entry)
    → AllByRecursion P (keys_of (members_list (members_view es))) → i < length es → P (cow_str_bytes (get_or es i d).0)
at_place P [] i d all within = absurd (omega arith)
at_place P (e ∷ es) zero d all within = all.0
at_place P (e ∷ es) (suc i) d all within = at_place P es i d all.1 (omega arith)

pub ascend_by_place : (es : List Entry) (i j : ℕ) (d : Entry) → InOrder es → i < j → j < length es
    → compare (cow_str_bytes (get_or es i d).0) (cow_str_bytes (get_or es j d).0) ≡ Less
unfolding IsStrictlySortedBy
ascend_by_place [] i j d up below within = absurd (omega arith)
ascend_by_place (e ∷ es) zero zero d up below within = absurd (omega arith)
ascend_by_place (e ∷ es) zero (suc j) d up below within =
    at_place (λ name. compare (cow_str_bytes e.0) name ≡ Less) es j d up.0 (omega arith)
ascend_by_place (e ∷ es) (suc i) zero d up below within = absurd (omega arith)
ascend_by_place (e ∷ es) (suc i) (suc j) d up below within = ascend_by_place es i j d up.1 (omega arith) (omega arith)

-- ---- what a binary search finds

-- the answer at a later name is no lower than at a name below it
rise : (name lower higher : List ℕ) → compare lower higher ≡ Less
    → ordering_index (compare lower name) ≤ ordering_index (compare higher name)
rise name lower higher below =
    elim (compare higher name) as
    (λ o. compare higher name ≡ o → ordering_index (compare lower name) ≤ ordering_index o) [
      | Less ↦ λ is. rw (nat_list_cmp_total.trans lower higher name below is) (omega arith)
      | Equal ↦ λ is. rw (ap (compare lower) (sym (same_from_tie higher name is)) ∙ below) (omega arith)
      | Greater ↦ λ is. highest (compare lower name)
    ] refl where
      highest : (o : Ordering) → ordering_index o ≤ 2
      highest Less = omega arith
      highest Equal = omega arith
      highest Greater = omega arith

rises : (name : List ℕ) (es : List Entry) → InOrder es
    → IsNonDecreasingBy (λ e. ordering_index (compare (cow_str_bytes e.0) name)) es
rises name es up i j d from within =
    elim (cases_lt i j) [
      | inl below ↦ rise name (cow_str_bytes (get_or es i d).0) (cow_str_bytes (get_or es j d).0)
          (ascend_by_place es i j d up below within)
      | inr above ↦ let same : i ≡ j = omega arith in rw same (omega arith)
    ]

pub searched : (name : List ℕ) (es : List Entry) (r : Result ℕ ℕ) → InOrder es → IsSearchInRange r (length es)
    → IsBinarySearchResult (λ (e : Entry). compare (cow_str_bytes e.0) name) es r → IsPlaceOf name es r
searched name es (Ok place) up within tie = (within, tie)
searched name es (Err place) up within parted = (within, parted (rises name es up))

-- ---- a look-up

at_equal : (name : List ℕ) (es : List Entry) (place : ℕ) (d : Entry) → InOrder es → place < length es
    → compare (cow_str_bytes (get_or es place d).0) name ≡ Equal
    → get_member name (members_view es) ≡ Some (view (get_or es place d).1)
unfolding IsStrictlySortedBy
at_equal name [] place d up within tie = absurd (omega arith)
at_equal name (e ∷ es) zero d up within tie = rw (turned name (cow_str_bytes e.0) Equal tie) refl
at_equal name (e ∷ es) (suc place) d up within tie =
    let next = at_place (λ other. compare (cow_str_bytes e.0) other ≡ Less) es place d up.0 (omega arith) in
    let below : compare (cow_str_bytes e.0) name ≡ Less =
    ap (compare (cow_str_bytes e.0)) (sym (same_from_tie _ name tie)) ∙ next in
    rw (turned name (cow_str_bytes e.0) Less below) (at_equal name es place d up.1 (omega arith) tie)

none_equal : (name : List ℕ) (es : List Entry)
    → ((i : ℕ) (d : Entry) → i < length es → compare (cow_str_bytes (get_or es i d).0) name ≡ Equal → ⊥)
    → get_member name (members_view es) ≡ None
none_equal name [] apart = refl
none_equal name (e ∷ es) apart =
    let rest = none_equal name es (λ i d within. apart (suc i) d (omega arith)) in
    elim (compare (cow_str_bytes e.0) name) as
    (λ o. compare (cow_str_bytes e.0) name ≡ o → get_member name (members_view (e ∷ es)) ≡ None) [
      | Less ↦ λ is. rw (turned name (cow_str_bytes e.0) Less is) rest
      | Equal ↦ λ is. absurd (apart zero e (omega arith) is)
      | Greater ↦ λ is. rw (turned name (cow_str_bytes e.0) Greater is) rest
    ] refl

pub found_here : (name : List ℕ) (es : List Entry) (place : ℕ) (e : Entry) → InOrder es → IsPlaceOf name es (Ok place)
    → e ≡ get_or es place e → Some (view e.1) ≡ get_member name (members_view es)
found_here name es place e up here is =
    sym (at_equal name es place e up here.0 (here.1 e) ∙ ap (λ x. Some (view x.1)) (sym is))

pub found_nowhere : (name : List ℕ) (es : List Entry) (place : ℕ) → IsPlaceOf name es (Err place)
    → None ≡ get_member name (members_view es)
found_nowhere name es place between = sym (none_equal name es apart) where
  apart : (i : ℕ) (d : Entry) → i < length es → compare (cow_str_bytes (get_or es i d).0) name ≡ Equal → ⊥
  apart i d within tie =
      elim (cases_lt i place) [
        | inl below ↦ let less = between.1.0 i d (omega arith) below in cc
        | inr above ↦ let greater = between.1.1 i d above within in cc
      ]

pub ruleset found = (found_here, found_nowhere)

-- ---- a change

pub put_here : (name : List ℕ) (es : List Entry) (place : ℕ) (d : Entry) (value : Tree) → InOrder es
    → place < length es → compare (cow_str_bytes (get_or es place d).0) name ≡ Equal
    → members_view (set es place ((get_or es place d).0, value)) ≡ put name (view value) (members_view es)
unfolding IsStrictlySortedBy
put_here name [] place d value up within tie = absurd (omega arith)
put_here name (e ∷ es) zero d value up within tie = rw (turned name (cow_str_bytes e.0) Equal tie) refl
put_here name (e ∷ es) (suc place) d value up within tie =
    let next = at_place (λ other. compare (cow_str_bytes e.0) other ≡ Less) es place d up.0 (omega arith) in
    let below : compare (cow_str_bytes e.0) name ≡ Less =
    ap (compare (cow_str_bytes e.0)) (sym (same_from_tie _ name tie)) ∙ next in
    rw (turned name (cow_str_bytes e.0) Less below)
    (ap (member (cow_str_bytes e.0) (view e.1)) (put_here name es place d value up.1 (omega arith) tie))

pub put_between : (name : Words) (es : List Entry) (place : ℕ) (value : Tree)
    → IsPlaceOf (cow_str_bytes name) es (Err place)
    → members_view (insert es place (name, value)) ≡ put (cow_str_bytes name) (view value) (members_view es)
put_between name [] zero value between = refl
put_between name [] (suc place) value between = absurd (omega (arith, between.0))
put_between name (e ∷ es) zero value between =
    let above : compare (cow_str_bytes e.0) (cow_str_bytes name) ≡ Greater =
    between.1.1 0 e (omega arith) (omega arith) in
    rw (turned (cow_str_bytes name) (cow_str_bytes e.0) Greater above) refl
put_between name (e ∷ es) (suc place) value between =
    let below : compare (cow_str_bytes e.0) (cow_str_bytes name) ≡ Less = between.1.0 0 e (omega arith) (omega arith) in
    let rest =
    put_between name es place value (
      omega (arith, between.0),
      (
        (λ i d from upto. between.1.0 (suc i) d (omega arith) (omega arith)),
        (λ i d from upto. between.1.1 (suc i) d (omega arith) (omega arith)),
      ),
    ) in
    rw (turned (cow_str_bytes name) (cow_str_bytes e.0) Less below) (ap (member (cow_str_bytes e.0) (view e.1)) rest)

-- ---- members as they come

put_from_last : (done : List Entry) (e : Entry) (more : List Entry) → InOrder (done ++ e ∷ more)
    → put (cow_str_bytes e.0) (view e.1) (members_view done) ≡ members_view (done ++ e ∷ [])
unfolding IsStrictlySortedBy
put_from_last [] e more up = refl
put_from_last (first ∷ done) e more up =
    let below = behind done up.0 in
    rw (turned (cow_str_bytes e.0) (cow_str_bytes first.0) Less below)
    (ap (member (cow_str_bytes first.0) (view first.1)) (put_from_last done e more up.1)) where
      behind : (done : List Entry)
          → AllByRecursion (λ name. compare (cow_str_bytes first.0) name ≡ Less)
          (keys_of (members_list (members_view (done ++ e ∷ more))))
          → compare (cow_str_bytes first.0) (cow_str_bytes e.0) ≡ Less
      behind [] all = all.0
      behind (d ∷ done) all = behind done all.1

each_behind : (done es : List Entry) → InOrder (done ++ es)
    → put_each es (members_view done) ≡ members_view (done ++ es)
each_behind done [] up = ap members_view (sym (append-nil done))
each_behind done (e ∷ es) up =
    let moved = append_assoc done (e ∷ []) es in
    ap (put_each es) (put_from_last done e es up) ∙ each_behind (done ++ e ∷ []) es (subst InOrder (sym moved) up)
    ∙ ap members_view moved

-- members whose names ascend are what they make when they are put one after another
pub ascending_stay : (es : List Entry) → InOrder es → members_view es ≡ gathered es
ascending_stay es up = sym (each_behind [] es up)

-- one more goes into those before it
pub gathered_more : (done : List Entry) (e : Entry) (ms : Members)
    → put_each (done ++ e ∷ []) ms ≡ put (cow_str_bytes e.0) (view e.1) (put_each done ms)
gathered_more [] e ms = refl
gathered_more (d ∷ done) e ms = gathered_more done e (put (cow_str_bytes d.0) (view d.1) ms)

pub view-insert_entry : (es : List Entry) (name : Words) (value : Tree)
    → members_view (insert_entry (λ one other. compare (cow_str_bytes one) (cow_str_bytes other)) es name value)
    ≡ put (cow_str_bytes name) (view value) (members_view es)
view-insert_entry [] name value = refl
view-insert_entry (e ∷ es) name value =
    choice_of_each members_view (compare (cow_str_bytes name) (cow_str_bytes e.0)) _ _ _
    ∙ rw (view-insert_entry es name value) refl

below_from_next : (name : List ℕ) (es : List Entry) → InOrder es
    → ((d : Entry) → 0 < length es → compare name (cow_str_bytes (get_or es 0 d).0) ≡ Less)
    → AllByRecursion (λ other. compare name other ≡ Less) (keys_of (members_list (members_view es)))
unfolding IsStrictlySortedBy
below_from_next name [] up next = tt
below_from_next name (e ∷ es) up next =
    let below = next e (omega arith) in (
      below,
      below_from_next name es up.1 (λ d some. nat_list_cmp_total.trans name (cow_str_bytes e.0) _ below
          (at_place (λ other. compare (cow_str_bytes e.0) other ≡ Less) es 0 d up.0 some)),
    )

pub less_from_is_lt : (o : Ordering) → true ≡ is_lt o → o ≡ Less
less_from_is_lt Less is = refl
less_from_is_lt Equal is = cc
less_from_is_lt Greater is = cc

pub in_order_from_steps : (es : List Entry)
    → AllAdjacentBelow (λ (x y : Entry). true ≡ is_lt (compare (cow_str_bytes x.0) (cow_str_bytes y.0))) es (length es)
    → InOrder es
unfolding IsStrictlySortedBy
in_order_from_steps [] steps = tt
in_order_from_steps (e ∷ es) steps =
    let rest =
    in_order_from_steps es (λ i d within. subst
    (λ n. true ≡ is_lt (compare (cow_str_bytes (get_or es i d).0) (cow_str_bytes (get_or (e ∷ es) n d).0)))
    {x = suc i + 1} {y = suc (i + 1)} (omega arith) (steps (suc i) d (omega arith))) in
    (below_from_next (cow_str_bytes e.0) es rest (λ d some. less_from_is_lt _ (steps 0 d (omega arith))), rest)

-- ---- in a tree

pub in_order_from_named : (v : Vec Entry Global) → IsNamedTree (view (Object v)) → InOrder v.items
in_order_from_named v named = (subst IsNamedTree (view-Object v) named).0.1

pub found_in_object : (found : Option Data) (name : List ℕ) (v : Vec Entry Global)
    → found ≡ get_member name (members_view v.items) → found ≡ get name (view (Object v))
found_in_object found name v is = is ∙ sym (ap (get name) (view-Object v))

pub found_in_array : (found : Option Data) (place : ℕ) (v : Vec Tree Global)
    → found ≡ get_item place (items_view v.items) → found ≡ at place (view (Array v))
found_in_array found place v is = is ∙ sym (ap (at place) (view-Array v))

pub ruleset in_trees = (in_order_from_named, found_in_object, found_in_array)

pub ruleset placed = (put_here, put_between)

-- what a put makes of members that ascend, ascends
pub in_order-put : (es others : List Entry) (name : List ℕ) (d : Data) → InOrder es
    → members_view others ≡ put name d (members_view es) → InOrder others
in_order-put es others name d up is =
    subst (λ ms. KeysAscend (members_list ms)) (sym is) (keys-put name d (members_view es) up)

pub ruleset ordered = (ascending_stay)

pub in_order-none : InOrder []
unfolding IsStrictlySortedBy
in_order-none = tt
