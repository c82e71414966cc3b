-- The grammar of JSON over tokens, a step at a time, as the reader takes it: what a value, a list so far and an object
-- so far mean.
use Rattle.std.proofs.Common.{◌≡◌, ℕ, ◌-◌, ◌<◌, ◌≤◌, Bool, List, [], ◌∷◌, ◌++◌, length, map, Option, Some, None}
use Rattle.std.proofs.Common.{Vec, Global, refl, sym, ap, ◌∙◌, subst, arith}
use Rattle.std.specs.Cow.{cow_str_bytes}
use Rattle.std.specs.List.Sorted.{IsStrictlySortedBy}
use Rattle.std.specs.Str.{IsUtf8}
use Rattle.json.proofs.Grammar.{value_is, value-begin_array, value-begin_object, read_key-shorter}
use Rattle.json.proofs.Grammar.{after_end_array-shorter}
use Rattle.json.specs.Json.{value, items, members, parse_map, after_end_array, read_key}
use Rattle.json.specs.Lex.{tokens}
use Rattle.json.specs.Token.{Token}
use Rattle.serde_json.proofs.Nesting.{depth-read}
use Rattle.serde_json.specs.Data.{Data, array, object, Items, no_items, item, Members}
use Rattle.serde_json.specs.Data.{no_members, put, depth}
use Rattle.serde_json.specs.Read.{of_json, of_items, of_members, converted, max_depth, number_of, read}
use Rattle.serde_json.specs.View.{number_view, items_of}
use Rattle.serde_json.specs.declared.number.Number.{Number}
use Rattle.sig_json.proofs.TokenConversions.{as_it_is, converted-array, converted-object, item_read, item_refused}
use Rattle.sig_json.proofs.TokenConversions.{items_over}
use Rattle.sig_json.proofs.TokenConversions.{member_read, member_refused, key_refused, members_over, whole_read}
use Rattle.sig_json.proofs.TokenConversions.{whole_and_more, whole_refused}
use Rattle.sig_json.proofs.NamedTrees.{ascend-put, values-put}
use Rattle.sig_json.proofs.OrderedMembers.{in_order-none}
use Rattle.sig_json.proofs.Trees.{view-Null, view-Bool, view-Number, view-Text, view-Array, view-Object}
use Rattle.sig_json.specs.Gathered.{Entry, gathered, AreInOrderIfFew}
use Rattle.sig_json.specs.NamedTree.{IsNamedTree, AreNamed, NamesAscend, HasNamedValues}
use Rattle.sig_json.specs.View.{Words, view, items_view, members_view}
use Rattle.sig_json.specs.declared.tree.Tree.{Tree, Null, Bool as Truth, Number as Numeral, Text, Array, Object}

-- ---- one value

-- what the tokens before `rest` mean as a value, to this depth
abbrev pub Means : ℕ → List Token → List Token → Data → Type 0
Means depth ts rest d = converted of_json (value depth ts) ≡ Some (d, rest)

abbrev pub MeansNothing : ℕ → List Token → Type 0
MeansNothing depth ts = converted of_json (value depth ts) ≡ None

pub null_means : (depth : ℕ) (ts rest : List Token) → ts ≡ Token.null ∷ rest → Means depth ts rest (view Null)
null_means depth ts rest is = rw (is, value_is depth (Token.null ∷ rest), view-Null) refl

pub bool_means : (depth : ℕ) (ts rest : List Token) (b : Bool) → ts ≡ Token.boolean b ∷ rest
    → Means depth ts rest (view (Truth b))
bool_means depth ts rest b is = rw (is, value_is depth (Token.boolean b ∷ rest), view-Bool b) refl

pub text_means : (depth : ℕ) (ts rest : List Token) (s : List ℕ) (text : Words) → ts ≡ Token.string s ∷ rest
    → cow_str_bytes text ≡ s → Means depth ts rest (view (Text text))
text_means depth ts rest s text is same = rw (is, value_is depth (Token.string s ∷ rest), view-Text text, same) refl

pub number_means : (depth : ℕ) (ts rest : List Token) (s : List ℕ) (n : Number) → ts ≡ Token.number s ∷ rest
    → Some (number_view n) ≡ number_of s → Means depth ts rest (view (Numeral n))
number_means depth ts rest s n is same = rw (is, value_is depth (Token.number s ∷ rest), view-Number n, ← same) refl

pub number_refused : (depth : ℕ) (ts rest : List Token) (s : List ℕ) → ts ≡ Token.number s ∷ rest → None ≡ number_of s
    → MeansNothing depth ts
number_refused depth ts rest s is none = rw (is, value_is depth (Token.number s ∷ rest), ← none) refl

pub array_means : (depth : ℕ) (ts inner rest : List Token) (v : Vec Tree Global) → 0 < depth
    → ts ≡ Token.begin_array ∷ inner
    → converted of_items (items (value (depth - 1)) (length inner) inner) ≡ Some (items_view v.items, rest)
    → Means depth ts rest (view (Array v))
array_means depth ts inner rest v some is means =
    ap (λ us. converted of_json (value depth us)) is ∙ ap (converted of_json) (value-begin_array depth inner some)
    ∙ converted-array (items (value (depth - 1)) (length inner) inner) ∙ ap (parse_map array) means
    ∙ ap (λ d. Some (d, rest)) (sym (view-Array v))

pub array_refused : (depth : ℕ) (ts inner : List Token) → 0 < depth → ts ≡ Token.begin_array ∷ inner
    → converted of_items (items (value (depth - 1)) (length inner) inner) ≡ None → MeansNothing depth ts
array_refused depth ts inner some is none =
    ap (λ us. converted of_json (value depth us)) is ∙ ap (converted of_json) (value-begin_array depth inner some)
    ∙ converted-array (items (value (depth - 1)) (length inner) inner) ∙ ap (parse_map array) none

pub array_too_deep : (depth : ℕ) (ts inner : List Token) → depth ≡ 0 → ts ≡ Token.begin_array ∷ inner
    → MeansNothing depth ts
unfolding value
array_too_deep depth ts inner none is = rw (none, is) refl

pub object_means : (depth : ℕ) (ts inner rest : List Token) (v : Vec Entry Global) → 0 < depth
    → ts ≡ Token.begin_object ∷ inner
    → converted (λ ms. of_members ms no_members) (members (value (depth - 1)) (length inner) inner)
    ≡ Some (members_view v.items, rest) → Means depth ts rest (view (Object v))
object_means depth ts inner rest v some is means =
    ap (λ us. converted of_json (value depth us)) is ∙ ap (converted of_json) (value-begin_object depth inner some)
    ∙ converted-object (members (value (depth - 1)) (length inner) inner) ∙ ap (parse_map object) means
    ∙ ap (λ d. Some (d, rest)) (sym (view-Object v))

pub object_refused : (depth : ℕ) (ts inner : List Token) → 0 < depth → ts ≡ Token.begin_object ∷ inner
    → converted (λ ms. of_members ms no_members) (members (value (depth - 1)) (length inner) inner) ≡ None
    → MeansNothing depth ts
object_refused depth ts inner some is none =
    ap (λ us. converted of_json (value depth us)) is ∙ ap (converted of_json) (value-begin_object depth inner some)
    ∙ converted-object (members (value (depth - 1)) (length inner) inner) ∙ ap (parse_map object) none

pub object_too_deep : (depth : ℕ) (ts inner : List Token) → depth ≡ 0 → ts ≡ Token.begin_object ∷ inner
    → MeansNothing depth ts
unfolding value
object_too_deep depth ts inner none is = rw (none, is) refl

pub nothing_means_nothing : (depth : ℕ) (ts : List Token) → ts ≡ [] → MeansNothing depth ts
nothing_means_nothing depth ts is = rw (is, value_is depth []) refl

-- names

pub list_is_named : (v : Vec Tree Global) → AreNamed (items_view v.items) → IsNamedTree (view (Array v))
list_is_named v named = subst IsNamedTree (sym (view-Array v)) named

pub object_is_named : (v : Vec Entry Global)
    → NamesAscend (members_view v.items) × HasNamedValues (members_view v.items) → IsNamedTree (view (Object v))
object_is_named v named = subst IsNamedTree (sym (view-Object v)) named

pub leaf_null : IsNamedTree (view Null)
leaf_null = subst IsNamedTree (sym view-Null) tt

pub leaf_bool : (b : Bool) → IsNamedTree (view (Truth b))
leaf_bool b = subst IsNamedTree (sym (view-Bool b)) tt

pub leaf_number : (n : Number) → IsNamedTree (view (Numeral n))
leaf_number n = subst IsNamedTree (sym (view-Number n)) tt

pub leaf_text : (text : Words) → IsNamedTree (view (Text text))
leaf_text text = subst IsNamedTree (sym (view-Text text)) tt

pub ruleset values = (
  null_means,
  bool_means,
  text_means,
  number_means,
  number_refused,
  array_means,
  array_refused,
  array_too_deep,
  object_means,
  object_refused,
  object_too_deep,
  nothing_means_nothing,
  list_is_named,
  object_is_named,
  leaf_null,
  leaf_bool,
  leaf_number,
  leaf_text,
)

-- ---- a list so far

-- items after those that were read
abbrev pub before : List Data → Items → Items
before [] rest = rest
before (d ∷ ds) rest = item d (before ds rest)

before-all : (ds : List Data) → before ds no_items ≡ items_of ds
before-all [] = refl
before-all (d ∷ ds) = ap (item d) (before-all ds)

before-more : (trees : List Tree) (tree : Tree) (rest : Items)
    → before (map view trees) (item (view tree) rest) ≡ before (map view (trees ++ tree ∷ [])) rest
before-more [] tree rest = refl
before-more (t ∷ trees) tree rest = ap (item (view t)) (before-more trees tree rest)

before-step : (trees : List Tree) (tree : Tree) (r : Option (Items × List Token))
    → parse_map (before (map view trees)) (parse_map (item (view tree)) r)
    ≡ parse_map (before (map view (trees ++ tree ∷ []))) r
before-step trees tree None = refl
before-step trees tree (Some p) = ap (λ ds. Some (ds, p.1)) (before-more trees tree p.0)

named_more : (trees : List Tree) (tree : Tree) → AreNamed (items_view trees) → IsNamedTree (view tree)
    → AreNamed (items_view (trees ++ tree ∷ []))
named_more [] tree named one = (one, tt)
named_more (t ∷ trees) tree named one = (named.0, named_more trees tree named.1 one)

abbrev pub list_meant : ℕ → ℕ → List Token → Option (Items × List Token)
list_meant depth turns ts = converted of_items (items (value depth) turns ts)

-- the list is what was found and what the tokens that are left mean
pub record ListSoFar (depth : ℕ) (start left : List Token) (found : List Tree) : Type 0 where
  pub turns : ℕ
  pub enough : length left ≤ turns
  pub meant : list_meant depth (length start) start ≡ parse_map (before (map view found)) (list_meant depth turns left)
  pub below : length left ≤ length start
  pub named : AreNamed (items_view found)

pub list_start : (depth : ℕ) (start : List Token) (found : List Tree) → found ≡ [] → ListSoFar depth start start found
list_start depth start found none =
    rw none (record {
      turns = length start;
      enough = omega arith;
      meant = as_it_is (list_meant depth (length start) start);
      below = omega arith;
      named = tt;
    })

pub list_step : (depth : ℕ) (start left next : List Token) (found more : List Tree) (tree : Tree)
    → ListSoFar depth start left found → after_end_array left ≡ None
    → Means depth left next (view tree) → length next < length left → IsNamedTree (view tree)
    → more ≡ found ++ tree ∷ []
    → ListSoFar depth start next more
list_step depth start left next found more tree so_far going means less one pushed =
    rw pushed (record {
      turns = so_far.turns - 1;
      enough = omega (arith, so_far.enough);
      meant =
          so_far.meant ∙ ap (parse_map (before (map view found)))
          (item_read (value depth) so_far.turns left next (view tree) (omega (arith, so_far.enough)) going means)
          ∙ before-step found tree _;
      below = omega (arith, so_far.below);
      named = named_more found tree so_far.named one;
    })

pub list_refused : (depth : ℕ) (start left : List Token) (found : List Tree) → ListSoFar depth start left found
    → after_end_array left ≡ None → MeansNothing depth left → list_meant depth (length start) start ≡ None
list_refused depth start left found so_far going none =
    so_far.meant ∙ ap (parse_map (before (map view found))) (item_refused (value depth) so_far.turns left going none)

pub list_end : (depth : ℕ) (start left rest : List Token) (found : List Tree) → ListSoFar depth start left found
    → after_end_array left ≡ Some rest → list_meant depth (length start) start ≡ Some (items_view found, rest)
list_end depth start left rest found so_far end =
    so_far.meant ∙ ap (parse_map (before (map view found)))
    (items_over (value depth) so_far.turns left rest so_far.enough end)
    ∙ ap (λ ds. Some (ds, rest)) (before-all (map view found))

pub ruleset lists = (list_start, list_step, list_refused, list_end, after_end_array-shorter)

-- ---- an object so far

abbrev pub object_meant : ℕ → ℕ → List Token → Members → Option (Members × List Token)
object_meant depth turns ts before = converted (λ ms. of_members ms before) (members (value depth) turns ts)

-- the object is what was found, put one after another, and what the tokens that are left put into it
pub record ObjectSoFar (depth : ℕ) (start left : List Token) (found : List Entry) : Type 0 where
  pub turns : ℕ
  pub enough : length left ≤ turns
  pub meant : object_meant depth (length start) start no_members ≡ object_meant depth turns left (gathered found)
  pub below : length left ≤ length start
  pub ascend : NamesAscend (gathered found)
  pub named : HasNamedValues (gathered found)

pub object_start : (depth : ℕ) (start : List Token) (found : List Entry) → found ≡ []
    → ObjectSoFar depth start start found
unfolding IsStrictlySortedBy
object_start depth start found none =
    rw none (record {
      turns = length start;
      enough = omega arith;
      meant = refl;
      below = omega arith;
      ascend = (tt, tt);
      named = tt;
    })

pub object_step :
    (depth : ℕ) (start left inner next : List Token) (found more : List Entry) (k : List ℕ) (name : Words)
    (tree : Tree)
    → ObjectSoFar depth start left found
    → read_key left ≡ Some (Some k, inner) → cow_str_bytes name ≡ k → Means depth inner next (view tree)
    → length next < length inner → IsNamedTree (view tree) → IsUtf8 (cow_str_bytes name)
    → gathered more ≡ put (cow_str_bytes name) (view tree) (gathered found) → ObjectSoFar depth start next more
object_step depth start left inner next found more k name tree so_far key same means less one utf8 added =
    let old = gathered found in
    let within = read_key-shorter left (Some k) inner key in
    let put_in : gathered more ≡ put k (view tree) old = added ∙ ap (λ k. put k (view tree) old) same in
    let text = subst IsUtf8 same utf8 in
    record {
      turns = so_far.turns - 1;
      enough = omega (arith, so_far.enough);
      meant =
          so_far.meant ∙ member_read (value depth) old so_far.turns k left inner next (view tree)
          (omega (arith, so_far.enough)) key means
          ∙ ap (object_meant depth (so_far.turns - 1) next) (sym put_in);
      below = omega (arith, so_far.below);
      ascend = subst NamesAscend (sym put_in) (ascend-put k (view tree) old text so_far.ascend);
      named = subst HasNamedValues (sym put_in) (values-put k (view tree) old one so_far.named);
    }

pub object_refused_at_key : (depth : ℕ) (start left : List Token) (found : List Entry)
    → ObjectSoFar depth start left found → read_key left ≡ None
    → object_meant depth (length start) start no_members ≡ None
object_refused_at_key depth start left found so_far none =
    so_far.meant ∙ key_refused (value depth) (gathered found) so_far.turns left none

pub object_refused_at_value : (depth : ℕ) (start left inner : List Token) (found : List Entry) (k : List ℕ)
    → ObjectSoFar depth start left found → read_key left ≡ Some (Some k, inner) → MeansNothing depth inner
    → object_meant depth (length start) start no_members ≡ None
object_refused_at_value depth start left inner found k so_far key none =
    so_far.meant ∙ member_refused (value depth) (gathered found) so_far.turns k left inner key none

pub object_end : (depth : ℕ) (start left rest : List Token) (found : List Entry) → ObjectSoFar depth start left found
    → read_key left ≡ Some (None, rest)
    → object_meant depth (length start) start no_members ≡ Some (gathered found, rest)
object_end depth start left rest found so_far end =
    so_far.meant ∙ members_over (value depth) (gathered found) so_far.turns left rest so_far.enough end

pub ordered_end : (depth : ℕ) (start left rest : List Token) (found ordered : List Entry)
    → ObjectSoFar depth start left found → read_key left ≡ Some (None, rest) → members_view ordered ≡ gathered found
    → object_meant depth (length start) start no_members ≡ Some (members_view ordered, rest)
ordered_end depth start left rest found ordered so_far end same =
    object_end depth start left rest found so_far end ∙ ap (λ ms. Some (ms, rest)) (sym same)

pub ordered_named : (depth : ℕ) (start left : List Token) (found ordered : List Entry)
    → ObjectSoFar depth start left found → members_view ordered ≡ gathered found
    → NamesAscend (members_view ordered) × HasNamedValues (members_view ordered)
ordered_named depth start left found ordered so_far same = rw same (so_far.ascend, so_far.named)

-- no member was read yet
pub none_yet : (found : List Entry) → found ≡ [] → AreInOrderIfFew found
none_yet found none = rw none (λ few. in_order-none)

pub ruleset objects = (
  object_start,
  object_step,
  object_refused_at_key,
  object_refused_at_value,
  ordered_end,
  ordered_named,
  none_yet,
  read_key-shorter,
)

-- ---- a whole text

pub text_read : (text : List ℕ) (d : Data) → Means max_depth (tokens text) [] d → read text ≡ Some d
text_read text d means = whole_read (value max_depth (tokens text)) d means

pub text_and_more : (text : List ℕ) (d : Data) (t : Token) (rest : List Token)
    → Means max_depth (tokens text) (t ∷ rest) d → read text ≡ None
text_and_more text d t rest means = whole_and_more (value max_depth (tokens text)) d t rest means

pub text_refused : (text : List ℕ) → MeansNothing max_depth (tokens text) → read text ≡ None
text_refused text none = whole_refused (value max_depth (tokens text)) none

pub text_nests : (text : List ℕ) (d : Data) → Means max_depth (tokens text) [] d → depth d ≤ max_depth
text_nests text d means = depth-read text d (text_read text d means)

pub ruleset whole_texts = (text_read, text_and_more, text_refused, text_nests)
