-- The names of each object of a tree that a text is ascend in byte order; so none is there twice.
use Rattle.std.proofs.Common.{◌≡◌, ℕ, List, [], ◌∷◌, Bool, true, false, if◌then◌else◌, Option, Some, None, option_map}
use Rattle.std.proofs.Common.{option_and_then, Ok, Err, subst, refl, ap, ◌∙◌}
use Rattle.std.proofs.lemmas.Cmp.{nat_list_cmp_total, tied_itself}
use Rattle.std.specs.Cmp.Lexicographic.{slice_cmp}
use Rattle.std.specs.List.{AllByRecursion}
use Rattle.std.specs.List.Sorted.{IsStrictlySortedBy}
use Rattle.std.specs.Map.{keys_of}
use Rattle.std.specs.Ordering.{nat_cmp, match_ordering, ordering_reverse}
use Rattle.std.specs.Prelude.{⊤}
use Rattle.std.specs.Str.{is_utf8}
use Rattle.std.specs.declared.cmp.Ordering.TheVariants.{Less, Greater}
use Rattle.json.specs.Json as json
use Rattle.json.specs.Lex.{tokens}
use Rattle.sig_base.proofs.OptionSteps.{some_is}
use Rattle.sig_base.specs.ByText.{KeysAscend}
use Rattle.sig_json.proofs.OrderingChoices.{holds_of_choice}
use Rattle.sig_json.proofs.NamedTrees.{keys-put}
use Rattle.sig_json.specs.Data.{Data, null, boolean, number, string, array, object, Items, no_items, item}
use Rattle.sig_json.specs.Data.{Members, no_members, member, put}
use Rattle.sig_json.specs.Document.{document_of, without_float}
use Rattle.sig_json.specs.Find.{get_member}
use Rattle.sig_json.specs.Members.{members_list}
use Rattle.sig_json.specs.NamedTree.{AreNamed, HasNamedValues, IsNamedTree}
use Rattle.sig_json.specs.Read.{max_depth, number_of, of_items, of_json, of_members, read}
use Rattle.sig_json.specs.Written.{has_float}
use Rattle.sig_json.specs.declared.error.DocumentError.TheVariants.{Float, NotJson}

-- the names of each object of a tree, at every depth
abbrev mutual
  pub Ascends : Data → Type 0
  Ascends null = ⊤
  Ascends (boolean b) = ⊤
  Ascends (number n) = ⊤
  Ascends (string text) = ⊤
  Ascends (array ds) = EachAscends ds
  Ascends (object ms) = KeysAscend (members_list ms) × ValuesAscend ms

  pub EachAscends : Items → Type 0
  EachAscends no_items = ⊤
  EachAscends (item d ds) = Ascends d × EachAscends ds

  pub ValuesAscend : Members → Type 0
  ValuesAscend no_members = ⊤
  ValuesAscend (member name d ms) = Ascends d × ValuesAscend ms

-- ---- trees with names

mutual
  pub named-ascends : (d : Data) → IsNamedTree d → Ascends d
  named-ascends null named = tt
  named-ascends (boolean b) named = tt
  named-ascends (number n) named = tt
  named-ascends (string text) named = tt
  named-ascends (array ds) named = named-each ds named
  named-ascends (object ms) named = (named.0.1, named-values ms named.1)

  named-each : (ds : Items) → AreNamed ds → EachAscends ds
  named-each no_items named = tt
  named-each (item d ds) named = (named-ascends d named.0, named-each ds named.1)

  named-values : (ms : Members) → HasNamedValues ms → ValuesAscend ms
  named-values no_members named = tt
  named-values (member name d ms) named = (named-ascends d named.0, named-values ms named.1)

-- ---- trees of texts

map_is : {A B : Type 0} → (f : A → B) (found : Option A) (y : B) → option_map f found ≡ Some y
    → (x : A) × (found ≡ Some x) × (f x ≡ y)
map_is f None y is = absurd cc
map_is f (Some x) y is = (x, refl, some_is (f x) y is)

then_is : {A B : Type 0} → (f : A → Option B) (found : Option A) (y : B) → option_and_then f found ≡ Some y
    → (x : A) × (found ≡ Some x) × (f x ≡ Some y)
then_is f None y is = absurd cc
then_is f (Some x) y is = (x, refl, is)

put-values : (k : List ℕ) (d : Data) (ms : Members) → Ascends d → ValuesAscend ms → ValuesAscend (put k d ms)
put-values k d no_members one rest = (one, tt)
put-values k d (member l e ms) one rest =
    holds_of_choice ValuesAscend (slice_cmp nat_cmp k l) (member k d (member l e ms)) (member l d ms)
    (member l e (put k d ms)) (one, rest) (one, rest.1) (rest.0, put-values k d ms one rest.1)

none-ascend : KeysAscend (members_list no_members)
unfolding IsStrictlySortedBy
none-ascend = tt

-- members whose names and values ascend
abbrev AreGood : Members → Type 0
AreGood ms = KeysAscend (members_list ms) × ValuesAscend ms

mutual
  of_json-ascends : (j : json.Json) (d : Data) → of_json j ≡ Some d → Ascends d
  of_json-ascends json.null d is = subst Ascends (some_is null d is) tt
  of_json-ascends (json.boolean b) d is = subst Ascends (some_is (boolean b) d is) tt
  of_json-ascends (json.number s) d is = let made = map_is number (number_of s) d is in subst Ascends made.2 tt
  of_json-ascends (json.string s) d is = subst Ascends (some_is (string s) d is) tt
  of_json-ascends (json.array js) d is =
      let made = map_is array (of_items js) d is in
      subst Ascends made.2 (of_items-ascend js made.0 made.1)
  of_json-ascends (json.object ms) d is =
      let made = map_is object (of_members ms no_members) d is in
      subst Ascends made.2 (of_members-ascend ms no_members made.0 (none-ascend, tt) made.1)

  of_items-ascend : (js : json.Items) (ds : Items) → of_items js ≡ Some ds → EachAscends ds
  of_items-ascend json.no_items ds is = subst EachAscends (some_is no_items ds is) tt
  of_items-ascend (json.item j js) ds is =
      let first = then_is (λ d. option_map (item d) (of_items js)) (of_json j) ds is in
      let rest = map_is (item first.0) (of_items js) ds first.2 in
      subst EachAscends rest.2 (of_json-ascends j first.0 first.1, of_items-ascend js rest.0 rest.1)

  of_members-ascend : (ms : json.Members) (found all : Members) → AreGood found → of_members ms found ≡ Some all
      → AreGood all
  of_members-ascend json.no_members found all good is = subst AreGood (some_is found all is) good
  of_members-ascend (json.member k j ms) found all good is =
      let first = then_is (λ d. of_members ms (put k d found)) (of_json j) all is in
      of_members-ascend ms (put k first.0 found) all
      (keys-put k first.0 found good.0, put-values k first.0 found (of_json-ascends j first.0 first.1) good.1) first.2

-- a text that is read has a tree without a float
without_is : (found : Option Data) (d : Data) → without_float found ≡ Ok d → found ≡ Some d
without_is None d is = cc
without_is (Some tree) d is = by (has_float tree) is where
  by : (b : Bool) → (if b then Err Float else Ok tree) ≡ Ok d → Some tree ≡ Some d
  by true is = cc
  by false is = let same : tree ≡ d = cc in ap Some same

text_is : (b : Bool) (found : Option Data) (d : Data) → (if b then without_float found else Err NotJson) ≡ Ok d
    → found ≡ Some d
text_is true found d is = without_is found d is
text_is false found d is = cc

-- the JSON that a text is
abbrev parsed : List ℕ → Option json.Json
parsed text = option_and_then (λ p. json.if_last p.0 p.1) (json.value max_depth (tokens text))

pub document-ascends : (text : List ℕ) (d : Data) → document_of text ≡ Ok d → Ascends d
unfolding document_of
document-ascends text d is =
    let read_is = then_is of_json (parsed text) d (text_is (is_utf8 text) (read text) d is) in
    of_json-ascends read_is.0 d read_is.2

-- ---- what is looked up

-- each of these members is found by its name
abbrev pub AreFoundIn : Members → List (List ℕ × Data) → Type 0
AreFoundIn all left = AllByRecursion (λ m. get_member m.0 all ≡ Some m.1) left

-- a later name is above an earlier one
above : (name other : List ℕ) → slice_cmp nat_cmp name other ≡ Less → slice_cmp nat_cmp other name ≡ Greater
above name other less = nat_list_cmp_total.antisymm other name ∙ ap ordering_reverse less

found-after : (name other : List ℕ) (d value : Data) (ms : Members) → slice_cmp nat_cmp name other ≡ Less
    → get_member other ms ≡ Some value → get_member other (member name d ms) ≡ Some value
found-after name other d value ms less found =
    ap (λ o. match_ordering o (get_member other ms) (Some d) (get_member other ms)) (above name other less) ∙ found

all-after : (name : List ℕ) (d : Data) (ms : Members) (left : List (List ℕ × Data))
    → AllByRecursion (λ k. slice_cmp nat_cmp name k ≡ Less) (keys_of left) → AreFoundIn ms left
    → AreFoundIn (member name d ms) left
all-after name d ms [] below found = tt
all-after name d ms (m ∷ left) below found =
    (found-after name m.0 d m.1 ms below.0 found.0, all-after name d ms left below.1 found.1)

-- the first of these names finds its own value
found-first : (name : List ℕ) (d : Data) (ms : Members) → get_member name (member name d ms) ≡ Some d
found-first name d ms =
    ap (λ o. match_ordering o (get_member name ms) (Some d) (get_member name ms)) (tied_itself nat_list_cmp_total name)

pub each-found : (ms : Members) → KeysAscend (members_list ms) → AreFoundIn ms (members_list ms)
unfolding IsStrictlySortedBy
each-found no_members up = tt
each-found (member name d ms) up =
    (found-first name d ms, all-after name d ms (members_list ms) up.0 (each-found ms up.1))

-- what is found ascends
abbrev found-ascends : Option Data → Type 0
found-ascends found = (d : Data) → found ≡ Some d → Ascends d

this-ascends : (v : Data) → Ascends v → found-ascends (Some v)
this-ascends v up = λ d is. subst Ascends (some_is v d is) up

nothing-ascends : found-ascends None
nothing-ascends = λ d is. absurd cc

pub member-ascends : (name : List ℕ) (ms : Members) → ValuesAscend ms → (d : Data) → get_member name ms ≡ Some d
    → Ascends d
member-ascends name ms up = by ms up where
  by : (ms : Members) → ValuesAscend ms → found-ascends (get_member name ms)
  by no_members up = nothing-ascends
  by (member k v ms) up =
      holds_of_choice found-ascends (slice_cmp nat_cmp name k) (get_member name ms) (Some v) (get_member name ms)
      (by ms up.1) (this-ascends v up.0) (by ms up.1)
