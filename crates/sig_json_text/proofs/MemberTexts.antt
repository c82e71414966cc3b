-- The parts of a list or an object, one after another after one text, and members that are sorted before they are
-- written.
use Rattle.std.proofs.Common.{◌≡◌, ◌≢◌, ◌<◌, ◌≤◌, ◌+◌, ◌==◌, false, ℕ, zero, suc, max, List, [], ◌∷◌, ◌++◌, length}
use Rattle.std.proofs.Common.{map, drop, get_or, Option, Some, None, Vec, Global, refl, sym, ap, subst, ◌∙◌}
use Rattle.std.proofs.Common.{append_assoc, arith}
use Rattle.std.proofs.lemmas.List.{at_drop_more}
use Rattle.std.specs.BTreeMap.{insert_entry}
use Rattle.std.specs.Cmp.Lexicographic.{slice_cmp}
use Rattle.std.specs.List.{AllByRecursion, join_by, flat_map}
use Rattle.std.specs.Map.{keys_of, values_of}
use Rattle.std.specs.Option.{option_and_then, option_map}
use Rattle.std.specs.Ordering.{nat_cmp, match_ordering}
use Rattle.std.specs.Prelude.{codes}
use Rattle.std.specs.Str.{IsUtf8}
use Rattle.std.specs.declared.cmp.Ordering.{Ordering}
use Rattle.std.specs.declared.cmp.Ordering.TheVariants.{Less, Equal, Greater}
use Rattle.serde_json.specs.Data.{Data, Members, no_members, member, depth, members_depth}
use Rattle.sig_json.specs.NamedTree.{HasNames, IsNamedTree, AreNamed, NamesAscend, HasNamedValues}
use Rattle.sig_json.specs.View.{Words, view, items_view, members_view}
use Rattle.sig_json.specs.declared.tree.Tree.{Tree, Array, Object}
use Rattle.sig_json.proofs.Trees.{view-Array, view-Object}
use Rattle.sig_json_text.specs.Canonical.{Sorted, canon, canon_items, canon_members, canon_string, in_braces, utf16_units}
use Rattle.sig_json_text.specs.Canonical.{with_text}
use Rattle.sig_json.specs.Members.{members_list}
use Rattle.sig_json_text.specs.Writes.{comma_before, Pair, ByUnits, by_units, member_text, pair_of, texts_in_turn}
use Rattle.sig_json_text.specs.declared.named_member.Member.{Member}
use Rattle.sig_base.proofs.AscendingKeys.{all_keys}
use Rattle.sig_json.proofs.OrderingChoices.{choice_of_each}
use Rattle.sig_json_text.proofs.MemberOrder.{same_units}
use Rattle.sig_json.proofs.Elements.{items_named_at}
use Rattle.sig_json.proofs.Lists.{none_left}
use Rattle.sig_json.proofs.SameTrees.{items_depth_at}

-- ---- parts after one text

-- the parts from a place on
abbrev pub parts_from : ℕ → List (List ℕ) → List ℕ
parts_from place [] = []
parts_from place (part ∷ parts) = comma_before place ++ (part ++ flat_map (λ next. codes "," ++ next) parts)

parts_from-join_by : (parts : List (List ℕ)) → join_by (λ text. text) (codes ",") parts ≡ parts_from 0 parts
parts_from-join_by [] = refl
parts_from-join_by (part ∷ parts) = refl

parts_from-later : (place : ℕ) (parts : List (List ℕ))
    → parts_from (place + 1) parts ≡ flat_map (λ next. codes "," ++ next) parts
parts_from-later place [] = refl
parts_from-later place (part ∷ parts) = let later : ((place + 1) == 0) ≡ false = grind arith in rw later refl

-- what is written, the parts that are left, and the end
abbrev pub with_left : List ℕ → List ℕ → ℕ → Option (List (List ℕ)) → Option (List ℕ)
with_left written end place left = option_map (λ parts. written ++ (parts_from place parts ++ end)) left

-- a whole list or object after what stands before it
abbrev pub whole : List ℕ → List ℕ → List ℕ → Option (List (List ℕ)) → Option (List ℕ)
whole before begin end parts =
    option_map (λ text. before ++ text)
    (option_and_then (λ texts. Some (begin ++ (join_by (λ text. text) (codes ",") texts ++ end))) parts)

pub whole-begins : (before begin end written : List ℕ) (parts : Option (List (List ℕ))) → written ≡ before ++ begin
    → whole before begin end parts ≡ with_left written end 0 parts
whole-begins before begin end written None is = refl
whole-begins before begin end written (Some parts) is =
    ap Some (sym (append_assoc before begin _) ∙ rw (is, parts_from-join_by parts) refl)

pub whole-none : (before begin end : List ℕ) (parts : Option (List (List ℕ))) → whole before begin end parts ≡ None
    → option_and_then (λ texts. Some (begin ++ (join_by (λ text. text) (codes ",") texts ++ end))) parts ≡ None
whole-none before begin end None is = refl
whole-none before begin end (Some parts) is = absurd cc

abbrev pub one_more : Option (List ℕ) → Option (List (List ℕ)) → Option (List (List ℕ))
one_more part left = option_and_then (λ text. option_and_then (λ texts. Some (text ∷ texts)) left) part

more_written : (written spaced after end text : List ℕ) (place : ℕ) (texts : List (List ℕ))
    → spaced ≡ written ++ comma_before place → spaced ++ text ≡ after
    → written ++ (parts_from place (text ∷ texts) ++ end) ≡ after ++ (parts_from (place + 1) texts ++ end)
more_written written spaced after end text place texts comma is =
    rw (sym is, comma, parts_from-later place texts) (simp append_assoc refl)

pub with_left-more :
    (written spaced after end : List ℕ) (place : ℕ) (part : Option (List ℕ)) (left : Option (List (List ℕ)))
    → spaced ≡ written ++ comma_before place → option_map (λ text. spaced ++ text) part ≡ Some after
    → with_left written end place (one_more part left) ≡ with_left after end (place + 1) left
with_left-more written spaced after end place None left comma is = absurd cc
with_left-more written spaced after end place (Some text) None comma is = refl
with_left-more written spaced after end place (Some text) (Some texts) comma is =
    let same : spaced ++ text ≡ after = cc in
    ap Some (more_written written spaced after end text place texts comma same)

left_items : (values : List Tree) (i : ℕ) (value : Tree) → i < length values → value ≡ get_or values i value
    → canon_items (items_view (drop i values))
    ≡ one_more (canon (view value)) (canon_items (items_view (drop (i + 1) values)))
left_items values i value h is =
    at_drop_more (λ vs. canon_items (items_view vs)) values i value h
    ∙ ap (λ v. one_more (canon (view v)) (canon_items (items_view (drop (i + 1) values)))) (sym is)

pub items-more :
    (values : List Tree) (i : ℕ) (value : Tree) (total : Option (List ℕ)) (written spaced after end : List ℕ)
    → i < length values → value ≡ get_or values i value
    → total ≡ with_left written end i (canon_items (items_view (drop i values))) → spaced ≡ written ++ comma_before i
    → option_map (λ text. spaced ++ text) (canon (view value)) ≡ Some after
    → total ≡ with_left after end (i + 1) (canon_items (items_view (drop (i + 1) values)))
items-more values i value total written spaced after end h is so_far comma more =
    so_far ∙ rw (left_items values i value h is)
    (with_left-more written spaced after end i (canon (view value)) _ comma more)

pub items-refused :
    (values : List Tree) (i : ℕ) (value : Tree) (before begin written end : List ℕ) (parts : Option (List (List ℕ)))
    → i < length values → value ≡ get_or values i value
    → whole before begin end parts ≡ with_left written end i (canon_items (items_view (drop i values)))
    → canon (view value) ≡ None
    → option_and_then (λ texts. Some (begin ++ (join_by (λ text. text) (codes ",") texts ++ end))) parts ≡ None
items-refused values i value before begin written end parts h is so_far refused =
    whole-none before begin end parts (so_far ∙ rw (left_items values i value h is, refused) refl)

left_members : (members : List Member) (i : ℕ) (m : Member) → i < length members → m ≡ get_or members i m
    → texts_in_turn (map pair_of (drop i members))
    ≡ one_more (member_text (pair_of m)) (texts_in_turn (map pair_of (drop (i + 1) members)))
left_members members i m h is =
    at_drop_more (λ ms. texts_in_turn (map pair_of ms)) members i m h
    ∙ ap (λ v. one_more (member_text (pair_of v)) (texts_in_turn (map pair_of (drop (i + 1) members)))) (sym is)

pub members-more :
    (members : List Member) (i : ℕ) (m : Member) (total : Option (List ℕ)) (written spaced after end : List ℕ)
    → i < length members → m ≡ get_or members i m
    → total ≡ with_left written end i (texts_in_turn (map pair_of (drop i members)))
    → spaced ≡ written ++ comma_before i → option_map (λ text. spaced ++ text) (member_text (pair_of m)) ≡ Some after
    → total ≡ with_left after end (i + 1) (texts_in_turn (map pair_of (drop (i + 1) members)))
members-more members i m total written spaced after end h is so_far comma more =
    so_far ∙ rw (left_members members i m h is)
    (with_left-more written spaced after end i (member_text (pair_of m)) _ comma more)

pub members-refused :
    (members : List Member) (i : ℕ) (m : Member) (before begin written end : List ℕ) (parts : Option (List (List ℕ)))
    → i < length members → m ≡ get_or members i m
    → whole before begin end parts ≡ with_left written end i (texts_in_turn (map pair_of (drop i members)))
    → member_text (pair_of m) ≡ None
    → option_and_then (λ texts. Some (begin ++ (join_by (λ text. text) (codes ",") texts ++ end))) parts ≡ None
members-refused members i m before begin written end parts h is so_far refused =
    whole-none before begin end parts (so_far ∙ rw (left_members members i m h is, refused) refl)

-- ---- the texts of members, sorted before they are written

abbrev cmp : List ℕ → List ℕ → Ordering
cmp = slice_cmp nat_cmp

each_entry : ByUnits → Option Sorted
each_entry [] = Some []
each_entry (e ∷ es) =
    option_and_then (λ text. option_and_then (λ rest. Some ((e.0, text) ∷ rest)) (each_entry es)) (member_text e.1)

texts_in_turn-values : (sorted : ByUnits)
    → texts_in_turn (values_of sorted) ≡ option_and_then (λ texts. Some (values_of texts)) (each_entry sorted)
unfolding each_entry
texts_in_turn-values [] = refl
texts_in_turn-values (e ∷ es) = by (member_text e.1) (each_entry es) (texts_in_turn-values es) where
  by : (found : Option (List ℕ)) (rest : Option Sorted)
      → texts_in_turn (values_of es) ≡ option_and_then (λ texts. Some (values_of texts)) rest
      → option_and_then (λ text. option_and_then (λ texts. Some (text ∷ texts)) (texts_in_turn (values_of es))) found
      ≡ option_and_then (λ texts. Some (values_of texts))
      (option_and_then (λ text. option_and_then (λ more. Some ((e.0, text) ∷ more)) rest) found)
  by None rest ih = refl
  by (Some text) None ih = rw ih refl
  by (Some text) (Some more) ih = rw ih refl

abbrev Apart : List ℕ → List (List ℕ) → Type 0
Apart units keys = AllByRecursion (λ other. cmp units other ≢ Equal) keys

-- a member that is put in before the texts are taken, and after
each_entry-insert : (sorted : ByUnits) (units : List ℕ) (m : Pair) → Apart units (keys_of sorted)
    → each_entry (insert_entry cmp sorted units m)
    ≡ option_and_then (λ text. option_and_then (λ texts. Some (insert_entry cmp texts units text))
    (each_entry sorted)) (member_text m)
unfolding each_entry
each_entry-insert [] units m apart = refl
each_entry-insert (e ∷ es) units m apart = by (cmp units e.0) refl (each_entry-insert es units m apart.1) where
  below : cmp units e.0 ≡ Less → (one other : Option (List ℕ)) (rest : Option Sorted)
      → option_and_then (λ text. option_and_then (λ texts. Some ((units, text) ∷ texts))
      (option_and_then (λ text. option_and_then (λ more. Some ((e.0, text) ∷ more)) rest) other)) one
      ≡ option_and_then (λ text. option_and_then (λ texts. Some (insert_entry cmp texts units text))
      (option_and_then (λ text. option_and_then (λ more. Some ((e.0, text) ∷ more)) rest) other)) one
  below is None other rest = refl
  below is (Some text) None rest = refl
  below is (Some text) (Some first) None = refl
  below is (Some text) (Some first) (Some more) = rw is refl

  above : cmp units e.0 ≡ Greater → (one other : Option (List ℕ)) (rest : Option Sorted)
      → option_and_then (λ text. option_and_then (λ more. Some ((e.0, text) ∷ more))
      (option_and_then (λ text. option_and_then (λ texts. Some (insert_entry cmp texts units text)) rest) one)) other
      ≡ option_and_then (λ text. option_and_then (λ texts. Some (insert_entry cmp texts units text))
      (option_and_then (λ text. option_and_then (λ more. Some ((e.0, text) ∷ more)) rest) other)) one
  above is None None rest = refl
  above is None (Some first) rest = refl
  above is (Some text) None rest = refl
  above is (Some text) (Some first) None = refl
  above is (Some text) (Some first) (Some more) = rw is refl

  by : (o : Ordering) → cmp units e.0 ≡ o
      → each_entry (insert_entry cmp es units m)
      ≡ option_and_then (λ text. option_and_then (λ texts. Some (insert_entry cmp texts units text)) (each_entry es))
      (member_text m)
      → each_entry (match_ordering o ((units, m) ∷ e ∷ es) ((e.0, m) ∷ es) (e ∷ insert_entry cmp es units m))
      ≡ option_and_then (λ text. option_and_then (λ texts. Some (insert_entry cmp texts units text))
      (each_entry (e ∷ es))) (member_text m)
  by Less is ih = below is (member_text m) (member_text e.1) (each_entry es)
  by Equal is ih = absurd (apart.0 is)
  by Greater is ih = rw ih (above is (member_text m) (member_text e.1) (each_entry es))

-- none of the names is among the entries
abbrev AllApart : List (List ℕ) → ByUnits → Type 0
AllApart names sorted = AllByRecursion (λ name. Apart (utf16_units name) (keys_of sorted)) names

all_apart-none : (names : List (List ℕ)) → AllApart names []
all_apart-none [] = tt
all_apart-none (name ∷ names) = (tt, all_apart-none names)

all_apart-more : (ms : Members) (name : List ℕ) (d : Data) (sorted : ByUnits) → IsUtf8 name → HasNames ms
    → AllByRecursion (λ other. name ≢ other) (keys_of (members_list ms)) → AllApart (keys_of (members_list ms)) sorted
    → AllApart (keys_of (members_list ms)) (insert_entry cmp sorted (utf16_units name) (name, d))
all_apart-more no_members name d sorted utf8 names other apart = tt
all_apart-more (member next e ms) name d sorted utf8 names other apart = (
  all_keys cmp (λ units. cmp (utf16_units next) units ≢ Equal) sorted (utf16_units name) (name, d) apart.0
      (λ same. other.0 (sym (same_units next name names.0 utf8 same))),
  all_apart-more ms name d sorted utf8 names.2 other.1 apart.1,
)

each_entry-by_units : (ms : Members) (sorted : ByUnits) → HasNames ms → AllApart (keys_of (members_list ms)) sorted
    → each_entry (by_units ms sorted) ≡ option_and_then (canon_members ms) (each_entry sorted)
unfolding with_text
each_entry-by_units no_members sorted names apart = same (each_entry sorted) where
  same : (found : Option Sorted) → found ≡ option_and_then (λ texts. Some texts) found
  same None = refl
  same (Some texts) = refl
each_entry-by_units (member name d ms) sorted names apart =
    each_entry-by_units ms (insert_entry cmp sorted (utf16_units name) (name, d)) names.2
    (all_apart-more ms name d sorted names.0 names.2 names.1 apart.1)
    ∙ rw (each_entry-insert sorted (utf16_units name) (name, d) apart.0) (by (canon d) (each_entry sorted)) where
      by : (found : Option (List ℕ)) (before : Option Sorted)
          → option_and_then (canon_members ms)
          (option_and_then (λ text. option_and_then (λ texts. Some (insert_entry cmp texts (utf16_units name) text))
          before) (option_and_then (λ text. Some (canon_string name ++ (codes ":" ++ text))) found))
          ≡ option_and_then (λ texts. option_and_then (λ text. canon_members ms (with_text texts name text)) found)
          before
      by None None = refl
      by None (Some texts) = refl
      by (Some text) None = refl
      by (Some text) (Some texts) = refl

pub object_meant : (all : Members) (ms : List Pair) → HasNames all → ms ≡ values_of (by_units all [])
    → option_and_then (λ texts. Some (in_braces texts)) (texts_in_turn ms)
    ≡ option_and_then (λ sorted. Some (in_braces (values_of sorted))) (canon_members all [])
unfolding each_entry
object_meant all ms names are =
    rw (are, texts_in_turn-values (by_units all []), each_entry-by_units all [] names (all_apart-none _))
    (by (canon_members all [])) where
      by : (found : Option Sorted)
          → option_and_then (λ texts. Some (in_braces texts)) (option_and_then (λ texts. Some (values_of texts)) found)
          ≡ option_and_then (λ sorted. Some (in_braces (values_of sorted))) found
      by None = refl
      by (Some sorted) = refl

-- ---- depths

abbrev pub deepest : List Pair → ℕ
deepest [] = 0
deepest (m ∷ ms) = max (depth m.1) (deepest ms)

deepest-insert : (sorted : ByUnits) (units : List ℕ) (m : Pair)
    → deepest (values_of (insert_entry cmp sorted units m)) ≤ max (depth m.1) (deepest (values_of sorted))
deepest-insert [] units m = omega arith
deepest-insert (e ∷ es) units m = by (cmp units e.0) (deepest-insert es units m) where
  by : (o : Ordering) → deepest (values_of (insert_entry cmp es units m)) ≤ max (depth m.1) (deepest (values_of es))
      → deepest (values_of (match_ordering o ((units, m) ∷ e ∷ es) ((e.0, m) ∷ es) (e ∷ insert_entry cmp es units m)))
      ≤ max (depth m.1) (max (depth e.1.1) (deepest (values_of es)))
  by Less ih = omega arith
  by Equal ih = omega arith
  by Greater ih = omega (arith, ih)

deepest-by_units : (ms : Members) (sorted : ByUnits)
    → deepest (values_of (by_units ms sorted)) ≤ max (members_depth ms) (deepest (values_of sorted))
deepest-by_units no_members sorted = omega arith
deepest-by_units (member name d ms) sorted =
    let rest = deepest-by_units ms (insert_entry cmp sorted (utf16_units name) (name, d)) in
    let here = deepest-insert sorted (utf16_units name) (name, d) in omega (arith, rest, here)

pub object_deepest : (all : Members) (ms : List Pair) → ms ≡ values_of (by_units all [])
    → deepest ms ≤ members_depth all
object_deepest all ms are = rw are (let most = deepest-by_units all [] in omega (arith, most))

pub deepest_at : (ms : List Member) (i : ℕ) (m : Member) → i < length ms → m ≡ get_or ms i m
    → depth (view m.value.now) ≤ deepest (map pair_of ms)
deepest_at [] i m h is = absurd (omega arith)
deepest_at (x ∷ ms) zero m h is = rw is (omega arith)
deepest_at (x ∷ ms) (suc i) m h is = let below = deepest_at ms i m (omega arith) is in omega (arith, below)

-- ---- the code's map

abbrev Entry : Type 0
Entry = Vec ℕ Global × Member

abbrev pub entries_of : List (Vec ℕ Global × Member) → ByUnits
entries_of = map (λ e. (e.0.items, pair_of e.1))

entries-insert_entry : (es : List Entry) (units : Vec ℕ Global) (m : Member)
    → entries_of (insert_entry (λ x y. cmp x.items y.items) es units m)
    ≡ insert_entry cmp (entries_of es) units.items (pair_of m)
entries-insert_entry [] units m = refl
entries-insert_entry (e ∷ es) units m =
    choice_of_each entries_of (cmp units.items e.0.items) _ _ _ ∙ rw (entries-insert_entry es units m) refl

-- a member is put in where the walk stands
pub members-inserted :
    (es after : List Entry) (units : Vec ℕ Global) (m : Member) (name : List ℕ) (d : Data) (ms : Members)
    → after ≡ insert_entry (λ x y. cmp x.items y.items) es units m → units.items ≡ utf16_units name
    → pair_of m ≡ (name, d) → by_units (member name d ms) (entries_of es) ≡ by_units ms (entries_of after)
members-inserted es after units m name d ms inserts spelled is =
    rw (inserts, entries-insert_entry es units m, spelled, is) refl

pub values_of-entries : (es : List Entry) → values_of (entries_of es) ≡ map pair_of (values_of es)
values_of-entries [] = refl
values_of-entries (e ∷ es) = ap (λ rest. pair_of e.1 ∷ rest) (values_of-entries es)

-- ---- named values

pub members_named_at : (es : List (Words × Tree)) (i : ℕ) (e : Words × Tree) → i < length es
    → e ≡ get_or es i e → HasNamedValues (members_view es) → IsNamedTree (view e.1)
members_named_at [] i e h is named = absurd (omega arith)
members_named_at (f ∷ es) zero e h is named = rw is named.0
members_named_at (f ∷ es) (suc i) e h is named = members_named_at es i e (omega arith) is named.1

pub array_named : (tree : Tree) (items : Vec Tree Global) → tree ≡ Array items → IsNamedTree (view tree)
    → AreNamed (items_view items.items)
array_named tree items is named = subst IsNamedTree (ap view is ∙ view-Array items) named

pub object_named : (tree : Tree) (members : Vec (Words × Tree) Global) → tree ≡ Object members
    → IsNamedTree (view tree) → NamesAscend (members_view members.items) × HasNamedValues (members_view members.items)
object_named tree members is named = subst IsNamedTree (ap view is ∙ view-Object members) named

pub ruleset parts = (
  whole-begins,
  items-more,
  items-refused,
  members-more,
  members-refused,
  items_depth_at,
  deepest_at,
  items_named_at,
  array_named,
  object_named,
)

pub ruleset objects = (object_meant, object_deepest)

pub sorted_end : (all left : List (Words × Tree)) (i : ℕ) (es : List Entry) (members : List Member)
    → i ≡ length left → by_units (members_view all) [] ≡ by_units (members_view (drop i left)) (entries_of es)
    → members ≡ values_of es
    → map pair_of members ≡ values_of (by_units (members_view all) [])
sorted_end all left i es members end so_far are =
    ap (map pair_of) are ∙ sym (values_of-entries es)
    ∙ ap values_of (sym (so_far ∙ ap (λ ms. by_units (members_view ms) (entries_of es)) (none_left left i end)))

pub ruleset sorts = (sorted_end, members_named_at)
