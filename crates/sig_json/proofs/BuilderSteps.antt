-- What the builders make of a tree.
use Rattle.std.proofs.Common.{Vec, Global, ◌≡◌, ℕ, List, [], ◌∷◌, ◌++◌, Some, None, Result, Ok, Err, false, ◌||◌}
use Rattle.std.proofs.Common.{refl, ap}
use Rattle.std.proofs.lemmas.Bool.{or_parts, or_from}
use Rattle.std.specs.Cmp.Lexicographic.{slice_cmp}
use Rattle.std.specs.Cow.{cow_str_bytes}
use Rattle.std.specs.Ordering.{nat_cmp}
use Rattle.std.specs.Prelude.{OnOk, OnErr}
use Rattle.serde_json.specs.Data.{Data, null, boolean, number, string, array, object, Items, no_items, item, Members}
use Rattle.serde_json.specs.Data.{no_members, member, put}
use Rattle.serde_json.specs.Find.{as_array, as_object}
use Rattle.sig_json.proofs.OrderingChoices.{holds_of_choice}
use Rattle.sig_json.proofs.Trees.{view-Array, view-Object}
use Rattle.sig_json.specs.View.{Words, view, items_view, members_view}
use Rattle.serde_json.specs.Written.{has_float, items_have_float, members_have_float}
use Rattle.sig_json.specs.declared.tree.Tree.{Tree, Array, Object}
use Rattle.sig_json.proofs.ValueKinds.{as_object_is}
use Rattle.sig_json.specs.Builders.{with_member, with_last, items_with_last}
use Rattle.sig_json.specs.Gathered.{Entry}

pub put_floatless : (name : List ℕ) (value : Data) (ms : Members) → has_float value ≡ false
    → members_have_float ms ≡ false → members_have_float (put name value ms) ≡ false
put_floatless name value no_members one rest = or_from (has_float value) false one refl
put_floatless name value (member k d ms) one rest =
    let parts = or_parts (has_float d) (members_have_float ms) rest in
    holds_of_choice (λ ms. members_have_float ms ≡ false) (slice_cmp nat_cmp name k)
    (member name value (member k d ms)) (member k value ms) (member k d (put name value ms))
    (or_from (has_float value) (has_float d || members_have_float ms) one rest)
    (or_from (has_float value) (members_have_float ms) one parts.1)
    (or_from (has_float d) (members_have_float (put name value ms)) parts.0 (put_floatless name value ms one parts.1))

pub with_member_floatless : (name : List ℕ) (value tree : Data) → has_float value ≡ false → has_float tree ≡ false
    → has_float (with_member name value tree) ≡ false
with_member_floatless name value null one whole = refl
with_member_floatless name value (boolean b) one whole = refl
with_member_floatless name value (number n) one whole = whole
with_member_floatless name value (string s) one whole = refl
with_member_floatless name value (array ds) one whole = whole
with_member_floatless name value (object ms) one whole = put_floatless name value ms one whole

pub with_member-object : (name : List ℕ) (value tree : Data) (ms : Members) → Some ms ≡ as_object tree
    → with_member name value tree ≡ object (put name value ms)
with_member-object name value tree ms e = ap (with_member name value) (as_object_is tree ms e)

pub with_member-other : (name : List ℕ) (value tree : Data) → None ≡ as_object tree
    → with_member name value tree ≡ tree
with_member-other name value null e = refl
with_member-other name value (boolean b) e = refl
with_member-other name value (number n) e = refl
with_member-other name value (string s) e = refl
with_member-other name value (array ds) e = refl
with_member-other name value (object ns) e = cc

last_floatless : (ds : Items) (value : Data) → has_float value ≡ false → items_have_float ds ≡ false
    → items_have_float (items_with_last ds value) ≡ false
last_floatless no_items value one rest = or_from (has_float value) false one refl
last_floatless (item d ds) value one rest =
    let parts = or_parts (has_float d) (items_have_float ds) rest in
    or_from (has_float d) (items_have_float (items_with_last ds value)) parts.0 (last_floatless ds value one parts.1)

pub with_last_floatless : (value tree : Data) → has_float value ≡ false → has_float tree ≡ false
    → has_float (with_last value tree) ≡ false
with_last_floatless value null one whole = refl
with_last_floatless value (boolean b) one whole = refl
with_last_floatless value (number n) one whole = whole
with_last_floatless value (string s) one whole = refl
with_last_floatless value (array ds) one whole = last_floatless ds value one whole
with_last_floatless value (object ms) one whole = whole

items_view-append : (values : List Tree) (last : Tree)
    → items_view (values ++ last ∷ []) ≡ items_with_last (items_view values) (view last)
items_view-append [] last = refl
items_view-append (v ∷ vs) last = ap (λ rest. item (view v) rest) (items_view-append vs last)

pub with_last-other : (value tree : Data) → None ≡ as_array tree → with_last value tree ≡ tree
with_last-other value null e = refl
with_last-other value (boolean b) e = refl
with_last-other value (number n) e = refl
with_last-other value (string s) e = refl
with_last-other value (array ds) e = cc
with_last-other value (object ms) e = refl

-- what the code makes of a list or an object
pub pushed_in : (before after : Vec Tree Global) (last : Tree) → after.items ≡ before.items ++ last ∷ []
    → view (Array after) ≡ with_last (view last) (view (Array before))
pushed_in before after last pushes =
    rw (view-Array after, view-Array before, pushes) (ap array (items_view-append before.items last))

pub put_in : (words : Words) (name : List ℕ) (value : Data) (before after : Vec Entry Global)
    → cow_str_bytes words ≡ name
    → members_view after.items ≡ put (cow_str_bytes words) value (members_view before.items)
    → view (Object after) ≡ with_member name value (view (Object before))
put_in words name value before after same puts = rw (view-Object after, view-Object before, puts, same) refl

pub object_unchanged : (before after : Vec Entry Global) → after.items ≡ before.items
    → view (Object after) ≡ view (Object before)
object_unchanged before after same = rw (view-Object after, view-Object before, same) refl

pub list_unchanged : (before after : Vec Tree Global) → after.items ≡ before.items
    → view (Array after) ≡ view (Array before)
list_unchanged before after same = rw (view-Array after, view-Array before, same) refl

-- a tree that is changed, or stays where that fails
pub set_floatless : {A E : Type 0} (r : Result A E) (name : List ℕ) (value before after : Data)
    → OnOk r (after ≡ with_member name value before) → OnErr r (after ≡ before) → has_float before ≡ false
    → has_float value ≡ false → has_float after ≡ false
set_floatless (Ok a) name value before after set stays whole one =
    rw set (with_member_floatless name value before one whole)
set_floatless (Err e) name value before after set stays whole one = rw stays whole

pub added_floatless : {A E : Type 0} (r : Result A E) (value before after : Data)
    → OnOk r (after ≡ with_last value before) → OnErr r (after ≡ before) → has_float before ≡ false
    → has_float value ≡ false → has_float after ≡ false
added_floatless (Ok a) value before after added stays whole one =
    rw added (with_last_floatless value before one whole)
added_floatless (Err e) value before after added stays whole one = rw stays whole

pub ruleset members_set = (with_member-object, with_member-other, put_in, object_unchanged)

pub ruleset elements_added = (with_last-other, pushed_in, list_unchanged)

pub ruleset building = (set_floatless, added_floatless)
