-- The compact text of a tree, token by token, and how it is read back.
use Rattle.std.proofs.Common.{◌≡◌, ◌<◌, ◌≤◌, ◌+◌, ◌^◌, ℕ, ℤ, pos, negsuc, suc, false, List, [], ◌∷◌, ◌++◌, length}
use Rattle.std.proofs.Common.{drop, get_or, Some, None, Ok, IsUtf8, option_map}
use Rattle.std.proofs.Common.{option_and_then, max, refl, sym, ap, ap₂, subst, ◌∙◌, append_assoc, append-nil, arith}
use Rattle.std.proofs.lemmas.Cmp.{nat_list_cmp_total}
use Rattle.std.specs.Cow.{cow_str_bytes}
use Rattle.std.specs.Cmp.Lexicographic.{slice_cmp}
use Rattle.std.specs.Fmt.{signed_decimal}
use Rattle.std.specs.List.{AllByRecursion}
use Rattle.std.specs.List.Sorted.{IsStrictlySortedBy}
use Rattle.std.specs.Map.{keys_of}
use Rattle.std.specs.Ordering.{nat_cmp, ordering_reverse}
use Rattle.std.specs.declared.cmp.Ordering.TheVariants.{Less, Greater}
use Rattle.std.specs.Prelude.{decimal}
use Rattle.json.proofs.Printed.Trees.{value-json_tokens}
use Rattle.json.specs.Json as json
use Rattle.json.specs.Lex.{tokens}
use Rattle.json.specs.Print.{print}
use Rattle.json.specs.Token.{Token}
use Rattle.json.specs.Tree as tree
use Rattle.json.specs.Tree.{json_tokens, items_tokens, members_tokens}
use Rattle.json.specs.Written.{Written}
use Rattle.serde_json.proofs.Numbers.{number_of-decimal, number_of-negative}
use Rattle.serde_json.proofs.Texts.{print-outline}
use Rattle.serde_json.specs.Data.{Num, unsigned, negative, float, Data, null, boolean, number, string, array, object}
use Rattle.serde_json.specs.Data.{Items, no_items, item, Members, no_members, member, put, depth, items_depth}
use Rattle.serde_json.specs.Data.{members_depth}
use Rattle.serde_json.specs.Find.{as_u64, as_i64, is_float}
use Rattle.serde_json.specs.Read.{of_json, of_items, of_members, converted, max_depth}
use Rattle.serde_json.specs.Written.{compact_text, outline, items_outline, members_outline, has_float}
use Rattle.sig_base.specs.ByText.{KeysAscend}
use Rattle.sig_json.proofs.TokenConversions.{whole_read}
use Rattle.sig_json.proofs.Lists.{items_from, members_from, none_left}
use Rattle.sig_json.proofs.DocumentSteps.{document_of-read}
use Rattle.sig_json.proofs.SameTrees.{as_u64_is, as_i64_is, items_floatless_at, members_floatless_at, items_depth_at}
use Rattle.sig_json.proofs.SameTrees.{members_depth_at}
use Rattle.sig_json.proofs.Trees.{view-Null, view-Bool, view-Number, view-Text, view-Array, view-Object}
use Rattle.sig_json.specs.Document.{document_of}
use Rattle.sig_json.specs.Gathered.{Entry}
use Rattle.sig_json.specs.Members.{members_list}
use Rattle.sig_json.specs.NamedTree.{IsNamedTree, AreNamed, HasNamedValues}
use Rattle.sig_json_text.specs.Range.{InRange, AreInRange, HasValuesInRange}
use Rattle.sig_json.specs.View.{view, items_view, members_view}
use Rattle.sig_json.specs.declared.tree.Tree.{Tree}

-- ---- a value of one token

-- after the tokens before, where the value is seen as the data
pub leaf_tokens : (t : Tree) (d : Data) (old new : List Token) → view t ≡ d → new ≡ old ++ json_tokens (outline d)
    → new ≡ old ++ json_tokens (outline (view t))
leaf_tokens t d old new is more = more ∙ ap (λ x. old ++ json_tokens (outline x)) (sym is)

-- ---- a list so far

abbrev list_left : List Tree → ℕ → List Token
list_left trees i = items_tokens (items_outline (items_view (drop i trees)))

-- what is written and the elements that are left make the list
pub record ListWritten (start : Written) (trees : List Tree) (i : ℕ) (now : Written) : Type 0 where
  pub tokens : now.tokens ++ list_left trees i ≡ start.tokens ++ json_tokens (outline (array (items_view trees)))
  pub before : now.before ≡ start.before
  pub range : AreInRange (items_view (drop i trees)) → AreInRange (items_view trees)

begun : (old new rest : List Token) (t : Token) → new ≡ old ++ t ∷ [] → new ++ rest ≡ old ++ t ∷ rest
begun old new rest t is = ap (λ ts. ts ++ rest) is ∙ append_assoc old (t ∷ []) rest

pub list_written_start : (start now : Written) (trees : List Tree)
    → now.tokens ≡ start.tokens ++ Token.begin_array ∷ [] → now.before ≡ start.before → ListWritten start trees 0 now
list_written_start start now trees is same =
    record {
      tokens = begun start.tokens now.tokens (items_tokens (items_outline (items_view trees))) Token.begin_array is;
      before = same;
      range = λ all. all;
    }

pub list_written_step : (start now next : Written) (trees : List Tree) (i : ℕ) (t : Tree) → i < length trees
    → t ≡ get_or trees i t → ListWritten start trees i now
    → next.tokens ≡ now.tokens ++ json_tokens (outline (view t)) → next.before ≡ now.before → InRange (view t)
    → ListWritten start trees (i + 1) next
list_written_step start now next trees i t h is so_far more same one =
    let left = items_from trees i t h is in
    record {
      tokens =
          ap (λ ts. ts ++ list_left trees (i + 1)) more
          ∙ append_assoc now.tokens (json_tokens (outline (view t))) (list_left trees (i + 1))
          ∙ ap (λ ds. now.tokens ++ items_tokens (items_outline ds)) (sym left) ∙ so_far.tokens;
      before = same ∙ so_far.before;
      range = λ rest. so_far.range (subst AreInRange (sym left) (one, rest));
    }

pub list_written_end : (start now end : Written) (trees : List Tree) (i : ℕ) → i ≡ length trees
    → ListWritten start trees i now → end.tokens ≡ now.tokens ++ Token.end_array ∷ []
    → end.tokens ≡ start.tokens ++ json_tokens (outline (array (items_view trees)))
list_written_end start now end trees i none so_far closed =
    closed ∙ ap (λ ts. now.tokens ++ items_tokens (items_outline (items_view ts))) (sym (none_left trees i none))
    ∙ so_far.tokens

pub list_in_range : (start now : Written) (trees : List Tree) (i : ℕ) → i ≡ length trees
    → ListWritten start trees i now → AreInRange (items_view trees)
list_in_range start now trees i none so_far =
    so_far.range (subst (λ ts. AreInRange (items_view ts)) (sym (none_left trees i none)) tt)

pub ruleset lists =
    (list_written_start, list_written_step, list_written_end, list_in_range, items_floatless_at, items_depth_at)

-- ---- an object so far

abbrev object_left : List Entry → ℕ → List Token
object_left es i = members_tokens (members_outline (members_view (drop i es)))

-- what is written and the members that are left make the object
pub record ObjectWritten (start : Written) (es : List Entry) (i : ℕ) (now : Written) : Type 0 where
  pub tokens : now.tokens ++ object_left es i ≡ start.tokens ++ json_tokens (outline (object (members_view es)))
  pub before : now.before ≡ start.before
  pub range : HasValuesInRange (members_view (drop i es)) → HasValuesInRange (members_view es)

pub object_written_start : (start now : Written) (es : List Entry)
    → now.tokens ≡ start.tokens ++ Token.begin_object ∷ [] → now.before ≡ start.before → ObjectWritten start es 0 now
object_written_start start now es is same =
    record {
      tokens =
          begun start.tokens now.tokens (members_tokens (members_outline (members_view es))) Token.begin_object is;
      before = same;
      range = λ all. all;
    }

pub object_written_step : (start now named next : Written) (es : List Entry) (i : ℕ) (e : Entry) → i < length es
    → e ≡ get_or es i e → ObjectWritten start es i now
    → named.tokens ≡ now.tokens ++ Token.key (cow_str_bytes e.0) ∷ [] → named.before ≡ now.before
    → next.tokens ≡ named.tokens ++ json_tokens (outline (view e.1)) → next.before ≡ named.before → InRange (view e.1)
    → ObjectWritten start es (i + 1) next
object_written_step start now named next es i e h is so_far key unmoved more same one =
    let left = members_from es i e h is in
    let tail = json_tokens (outline (view e.1)) ++ object_left es (i + 1) in
    record {
      tokens =
          ap (λ ts. ts ++ object_left es (i + 1)) more
          ∙ append_assoc named.tokens (json_tokens (outline (view e.1))) (object_left es (i + 1))
          ∙ begun now.tokens named.tokens tail (Token.key (cow_str_bytes e.0)) key
          ∙ ap (λ ms. now.tokens ++ members_tokens (members_outline ms)) (sym left) ∙ so_far.tokens;
      before = same ∙ unmoved ∙ so_far.before;
      range = λ rest. so_far.range (subst HasValuesInRange (sym left) (one, rest));
    }

pub object_written_end : (start now end : Written) (es : List Entry) (i : ℕ) → i ≡ length es
    → ObjectWritten start es i now → end.tokens ≡ now.tokens ++ Token.end_object ∷ []
    → end.tokens ≡ start.tokens ++ json_tokens (outline (object (members_view es)))
object_written_end start now end es i none so_far closed =
    closed ∙ ap (λ ts. now.tokens ++ members_tokens (members_outline (members_view ts))) (sym (none_left es i none))
    ∙ so_far.tokens

pub object_in_range : (start now : Written) (es : List Entry) (i : ℕ) → i ≡ length es → ObjectWritten start es i now
    → HasValuesInRange (members_view es)
object_in_range start now es i none so_far =
    so_far.range (subst (λ ts. HasValuesInRange (members_view ts)) (sym (none_left es i none)) tt)

pub ruleset objects = (
  object_written_start,
  object_written_step,
  object_written_end,
  object_in_range,
  members_floatless_at,
  members_depth_at,
)

-- ---- numbers

pub natural_tokens : (n : Num) (u : ℕ) (old new : List Token) → Some u ≡ as_u64 n
    → new ≡ old ++ Token.number (decimal u) ∷ [] → new ≡ old ++ json_tokens (outline (number n))
natural_tokens n u old new is more = more ∙ ap (λ m. old ++ json_tokens (outline (number m))) (sym (as_u64_is n u is))

pub negative_tokens : (n : Num) (z : ℤ) (old new : List Token) → is_float n ≡ false → None ≡ as_u64 n
    → Some z ≡ as_i64 n → new ≡ old ++ Token.number (signed_decimal z) ∷ []
    → new ≡ old ++ json_tokens (outline (number n))
negative_tokens n z old new whole none is more =
    let found = as_i64_is n whole none in
    let same : found.0 ≡ z = cc in
    more ∙ ap (λ x. old ++ json_tokens (outline (number (negative x)))) (sym same)
    ∙ ap (λ m. old ++ json_tokens (outline (number m))) (sym found.1)

pub natural_fits : (n : Num) (u : ℕ) → Some u ≡ as_u64 n → u < 2 ^ 64 → InRange (number n)
natural_fits n u is below = subst (λ m. InRange (number m)) (sym (as_u64_is n u is)) below

-- ---- read back

-- members after others
abbrev join : Members → Members → Members
join no_members ms = ms
join (member k d done) ms = member k d (join done ms)

join-none : (done : Members) → join done no_members ≡ done
join-none no_members = refl
join-none (member k d done) = ap (member k d) (join-none done)

join-more : (done : Members) (k : List ℕ) (d : Data) (ms : Members)
    → join (join done (member k d no_members)) ms ≡ join done (member k d ms)
join-more no_members k d ms = refl
join-more (member l e done) k d ms = ap (member l e) (join-more done k d ms)

below_next : (name k : List ℕ) (d : Data) (done ms : Members)
    → AllByRecursion (λ other. slice_cmp nat_cmp name other ≡ Less)
    (keys_of (members_list (join done (member k d ms))))
    → slice_cmp nat_cmp name k ≡ Less
below_next name k d no_members ms all = all.0
below_next name k d (member l e done) ms all = below_next name k d done ms all.1

put_next : (done : Members) (k : List ℕ) (d : Data) (ms : Members)
    → KeysAscend (members_list (join done (member k d ms))) → put k d done ≡ join done (member k d no_members)
unfolding IsStrictlySortedBy
put_next no_members k d ms up = refl
put_next (member l e done) k d ms up =
    let above : slice_cmp nat_cmp k l ≡ Greater =
    nat_list_cmp_total.antisymm k l ∙ ap ordering_reverse (below_next l k d done ms up.0) in
    rw above (ap (member l e) (put_next done k d ms up.1))

mutual
  means : (d : Data) → InRange d → IsNamedTree d → of_json (outline d) ≡ Some d
  means null fits named = refl
  means (boolean b) fits named = refl
  means (number (unsigned n)) fits named = ap (option_map number) (number_of-decimal n fits)
  means (number (negative (pos n))) fits named = absurd fits
  means (number (negative (negsuc n))) fits named = ap (option_map number) (number_of-negative n fits)
  means (number (float x)) fits named = absurd fits
  means (string s) fits named = refl
  means (array ds) fits named = ap (option_map array) (items_mean ds fits named)
  means (object ms) fits named = ap (option_map object) (members_mean no_members ms fits named.1 named.0.1)

  items_mean : (ds : Items) → AreInRange ds → AreNamed ds → of_items (items_outline ds) ≡ Some ds
  items_mean no_items fits named = refl
  items_mean (item d ds) fits named = rw (means d fits.0 named.0, items_mean ds fits.1 named.1) refl

  members_mean : (done ms : Members) → HasValuesInRange ms → HasNamedValues ms
      → KeysAscend (members_list (join done ms)) → of_members (members_outline ms) done ≡ Some (join done ms)
  members_mean done no_members fits named up = ap Some (sym (join-none done))
  members_mean done (member k d ms) fits named up =
      let moved = join-more done k d ms in
      ap (option_and_then (λ x. of_members (members_outline ms) (put k x done))) (means d fits.0 named.0)
      ∙ ap (of_members (members_outline ms)) (put_next done k d ms up)
      ∙ members_mean (join done (member k d no_members)) ms fits.1 named.1
      (subst (λ all. KeysAscend (members_list all)) (sym moved) up)
      ∙ ap Some moved

mutual
  as_deep : (d : Data) → tree.depth (outline d) ≡ depth d
  as_deep null = refl
  as_deep (boolean b) = refl
  as_deep (number n) = refl
  as_deep (string s) = refl
  as_deep (array ds) = ap suc (items_as_deep ds)
  as_deep (object ms) = ap suc (members_as_deep ms)

  items_as_deep : (ds : Items) → tree.items_depth (items_outline ds) ≡ items_depth ds
  items_as_deep no_items = refl
  items_as_deep (item d ds) = ap₂ max (as_deep d) (items_as_deep ds)

  members_as_deep : (ms : Members) → tree.members_depth (members_outline ms) ≡ members_depth ms
  members_as_deep no_members = refl
  members_as_deep (member k d ms) = ap₂ max (as_deep d) (members_as_deep ms)

-- the bytes of a tree's tokens are its compact text
pub text_of_tokens : (d : Data) (start end : Written) (bytes : List ℕ) → start.before ≡ [] → start.tokens ≡ []
    → end.before ≡ start.before → end.tokens ≡ start.tokens ++ json_tokens (outline d)
    → bytes ≡ end.before ++ print end.tokens → bytes ≡ compact_text d
text_of_tokens d start end bytes none empty same are is =
    is ∙ rw (same, none, are, empty) (print-outline d)

pub read_back : (d : Data) (text : List ℕ) → IsNamedTree d → InRange d → IsUtf8 text → has_float d ≡ false
    → text ≡ compact_text d → tokens (compact_text d) ≡ json_tokens (outline d) → depth d ≤ max_depth
    → document_of text ≡ Ok d
read_back d text named fits utf8 none is same shallow =
    let parsed =
    ap (json.value max_depth) (ap tokens is ∙ same ∙ sym (append-nil (json_tokens (outline d))))
    ∙ value-json_tokens (outline d) max_depth [] (omega (arith, as_deep d)) in
    let meant : converted of_json (json.value max_depth (tokens text)) ≡ Some (d, []) =
    ap (converted of_json) parsed ∙ rw (means d fits named) refl in
    document_of-read text d utf8 (whole_read (json.value max_depth (tokens text)) d meant) none

pub ruleset numbers = (natural_tokens, negative_tokens, natural_fits)

pub ruleset values = (view-Null, view-Bool, view-Number, view-Text, view-Array, view-Object, leaf_tokens)

pub ruleset compact_texts = (text_of_tokens, read_back)
