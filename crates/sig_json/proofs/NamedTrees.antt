-- The names of the objects of a tree ascend in byte order, at every depth: as a walk finds it, as a look inside keeps
-- it, as the builders keep it.
use Rattle.std.proofs.Common.{◌≡◌, ◌≢◌, ℕ, zero, suc, List, [], ◌∷◌, Option}
use Rattle.std.proofs.Common.{Some, Result, Ok, Err, Vec, Global, sym, subst, refl, ap, ◌∙◌}
use Rattle.std.proofs.lemmas.Cmp.{nat_list_cmp_total, tied_itself}
use Rattle.std.specs.BTreeMap.{insert_entry}
use Rattle.std.specs.Cmp.Lexicographic.{slice_cmp}
use Rattle.std.specs.List.{AllByRecursion}
use Rattle.std.specs.List.Sorted.{IsStrictlySortedBy}
use Rattle.std.specs.Map.{keys_of}
use Rattle.std.specs.Ordering.{nat_cmp}
use Rattle.std.specs.Prelude.{OnOk, OnErr}
use Rattle.std.specs.Str.{IsUtf8}
use Rattle.std.specs.declared.cmp.Ordering.TheVariants.{Less, Equal}
use Rattle.sig_base.proofs.AscendingKeys.{all_keys, ascend-insert_entry}
use Rattle.sig_base.specs.ByText.{KeysAscend}
use Rattle.sig_json.proofs.Trees.{view-Object}
use Rattle.serde_json.specs.Data.{Num, Data, null, boolean, number, string, array, object, Items, no_items, item}
use Rattle.serde_json.specs.Data.{Members, no_members, member, put}
use Rattle.serde_json.specs.Find.{get, at, get_member, get_item, as_object}
use Rattle.sig_json.specs.View.{view, members_view}
use Rattle.sig_json.specs.declared.tree.Tree.{Object}
use Rattle.sig_json.proofs.ValueKinds.{as_object_is}
use Rattle.sig_json.proofs.OrderingChoices.{choice_of_each, holds_of_choice}
use Rattle.sig_json.specs.Builders.{with_member, with_last, items_with_last}
use Rattle.sig_json.specs.Members.{members_list}
use Rattle.sig_json.specs.NamedTree.{HasNames, NamesAscend, IsNamedTree, AreNamed, HasNamedValues}
use Rattle.sig_json.specs.Gathered.{Entry}

-- ---- what ascends differs

unlike : (name : List ℕ) (names : List (List ℕ)) → AllByRecursion (λ other. slice_cmp nat_cmp name other ≡ Less) names
    → AllByRecursion (λ other. name ≢ other) names
unlike name [] below = tt
unlike name (n ∷ ns) below = (
  (λ same. let tied : slice_cmp nat_cmp name n
      ≡ Equal = ap (λ l. slice_cmp nat_cmp name l) (sym same) ∙ tied_itself nat_list_cmp_total name in
      let less : slice_cmp nat_cmp name n ≡ Less = below.0 in cc),
  unlike name ns below.1,
)

pub names_differ : (ms : Members) → NamesAscend ms → HasNames ms
unfolding IsStrictlySortedBy
names_differ no_members up = tt
names_differ (member name d ms) up =
    (up.0.0, unlike name (keys_of (members_list ms)) up.1.0, names_differ ms (up.0.1, up.1.1))

-- ---- what is looked up

abbrev FoundNamed : Option Data → Type 0
FoundNamed found = (d : Data) → found ≡ Some d → IsNamedTree d

this_named : (v : Data) → IsNamedTree v → FoundNamed (Some v)
this_named v named = λ d e. let same : v ≡ d = cc in subst IsNamedTree same named

get_member_named : (name : List ℕ) (ms : Members) → HasNamedValues ms → FoundNamed (get_member name ms)
get_member_named name no_members named = λ d e. absurd cc
get_member_named name (member k v ms) named =
    let rest = get_member_named name ms named.1 in
    holds_of_choice FoundNamed (slice_cmp nat_cmp name k) (get_member name ms) (Some v) (get_member name ms) rest
    (this_named v named.0) rest

get_item_named : (place : ℕ) (ds : Items) → AreNamed ds → FoundNamed (get_item place ds)
get_item_named place no_items named = λ d e. absurd cc
get_item_named zero (item v ds) named = this_named v named.0
get_item_named (suc place) (item v ds) named = get_item_named place ds named.1

pub get_named : (name : List ℕ) (d found : Data) → IsNamedTree d → Some found ≡ get name d → IsNamedTree found
get_named name null found named e = absurd cc
get_named name (boolean b) found named e = absurd cc
get_named name (number n) found named e = absurd cc
get_named name (string s) found named e = absurd cc
get_named name (array ds) found named e = absurd cc
get_named name (object ms) found named e = get_member_named name ms named.1 found (sym e)

pub at_named : (place : ℕ) (d found : Data) → IsNamedTree d → Some found ≡ at place d → IsNamedTree found
at_named place null found named e = absurd cc
at_named place (boolean b) found named e = absurd cc
at_named place (number n) found named e = absurd cc
at_named place (string s) found named e = absurd cc
at_named place (array ds) found named e = get_item_named place ds named found (sym e)
at_named place (object ms) found named e = absurd cc

pub as_object_named : (d : Data) (ms : Members) → IsNamedTree d → Some ms ≡ as_object d → HasNamedValues ms
as_object_named d ms named e = (subst IsNamedTree (as_object_is d ms e) named).1

pub as_object_ascends : (d : Data) (ms : Members) → IsNamedTree d → Some ms ≡ as_object d → KeysAscend (members_list ms)
as_object_ascends d ms named e = (subst IsNamedTree (as_object_is d ms e) named).0.1

-- a walk's next member, and what is left of it
pub next_named : (d : Data) (ms : Members) (name : List ℕ) → HasNamedValues (member name d ms)
    → IsNamedTree d × HasNamedValues ms
next_named d ms name named = named

pub ruleset named = (get_named, at_named, as_object_named, as_object_ascends, next_named)

-- ---- what is built

members_list-put : (k : List ℕ) (d : Data) (ms : Members)
    → members_list (put k d ms) ≡ insert_entry (slice_cmp nat_cmp) (members_list ms) k d
members_list-put k d no_members = refl
members_list-put k d (member l e ms) =
    choice_of_each members_list (slice_cmp nat_cmp k l) _ _ _ ∙ rw (members_list-put k d ms) refl

pub keys-put : (k : List ℕ) (d : Data) (ms : Members) → KeysAscend (members_list ms)
    → KeysAscend (members_list (put k d ms))
keys-put k d ms up =
    rw (members_list-put k d ms) (ascend-insert_entry (slice_cmp nat_cmp) nat_list_cmp_total (members_list ms) k d up)

pub ascend-put : (k : List ℕ) (d : Data) (ms : Members) → IsUtf8 k → NamesAscend ms → NamesAscend (put k d ms)
ascend-put k d ms utf8 up =
    rw (members_list-put k d ms) (
      all_keys (slice_cmp nat_cmp) IsUtf8 (members_list ms) k d up.0 utf8,
      ascend-insert_entry (slice_cmp nat_cmp) nat_list_cmp_total (members_list ms) k d up.1,
    )

pub values-put : (k : List ℕ) (d : Data) (ms : Members) → IsNamedTree d → HasNamedValues ms
    → HasNamedValues (put k d ms)
values-put k d no_members one rest = (one, tt)
values-put k d (member l e ms) one rest =
    holds_of_choice HasNamedValues (slice_cmp nat_cmp k l) (member k d (member l e ms)) (member l d ms)
    (member l e (put k d ms)) (one, rest) (one, rest.1) (rest.0, values-put k d ms one rest.1)

with_member_named : (name : List ℕ) (value tree : Data) → IsUtf8 name → IsNamedTree tree → IsNamedTree value
    → IsNamedTree (with_member name value tree)
with_member_named name value null utf8 whole one = tt
with_member_named name value (boolean b) utf8 whole one = tt
with_member_named name value (number n) utf8 whole one = tt
with_member_named name value (string s) utf8 whole one = tt
with_member_named name value (array ds) utf8 whole one = whole
with_member_named name value (object ms) utf8 whole one =
    (ascend-put name value ms utf8 whole.0, values-put name value ms one whole.1)

last_named : (ds : Items) (value : Data) → AreNamed ds → IsNamedTree value → AreNamed (items_with_last ds value)
last_named no_items value rest one = (one, tt)
last_named (item d ds) value rest one = (rest.0, last_named ds value rest.1 one)

with_last_named : (value tree : Data) → IsNamedTree tree → IsNamedTree value → IsNamedTree (with_last value tree)
with_last_named value null whole one = tt
with_last_named value (boolean b) whole one = tt
with_last_named value (number n) whole one = tt
with_last_named value (string s) whole one = tt
with_last_named value (array ds) whole one = last_named ds value whole one
with_last_named value (object ms) whole one = whole

-- a tree that is changed, or stays where that fails
pub set_named : {A E : Type 0} (r : Result A E) (name : List ℕ) (value before after : Data)
    → OnOk r (after ≡ with_member name value before) → OnErr r (after ≡ before) → IsUtf8 name → IsNamedTree before
    → IsNamedTree value → IsNamedTree after
set_named (Ok a) name value before after set stays utf8 whole one =
    subst IsNamedTree (sym set) (with_member_named name value before utf8 whole one)
set_named (Err e) name value before after set stays utf8 whole one = subst IsNamedTree (sym stays) whole

pub added_named : {A E : Type 0} (r : Result A E) (value before after : Data)
    → OnOk r (after ≡ with_last value before) → OnErr r (after ≡ before) → IsNamedTree before → IsNamedTree value
    → IsNamedTree after
added_named (Ok a) value before after added stays whole one =
    subst IsNamedTree (sym added) (with_last_named value before whole one)
added_named (Err e) value before after added stays whole one = subst IsNamedTree (sym stays) whole

pub same_named : (d e : Data) → d ≡ e → IsNamedTree e → IsNamedTree d
same_named d e same named = subst IsNamedTree (sym same) named

pub empty_object_named : (m : Vec Entry Global) → m.items ≡ [] → IsNamedTree (view (Object m))
unfolding IsStrictlySortedBy
empty_object_named m is =
    subst IsNamedTree (sym (view-Object m ∙ ap (λ es. object (members_view es)) is)) ((tt, tt), tt)

pub empty_list_named : (d : Data) → d ≡ array no_items → IsNamedTree d
empty_list_named d is = subst IsNamedTree (sym is) tt

pub text_named : (d : Data) (text : List ℕ) → d ≡ string text → IsNamedTree d
text_named d text is = subst IsNamedTree (sym is) tt

pub number_named : (d : Data) (n : Num) → d ≡ number n → IsNamedTree d
number_named d n is = subst IsNamedTree (sym is) tt

pub ruleset named_parts = (empty_list_named, text_named, number_named, same_named, set_named, added_named)
