-- Elements of a list, beside the `Vec` that holds them.
use Rattle.std.proofs.Common.{◌≡◌, ℕ, zero, suc, ◌+◌, ◌<◌, ◌≤◌, List, [], ◌∷◌, length, drop, get_or, Bool, true, false}
use Rattle.std.proofs.Common.{Some, None, option_map, refl, sym, ap, ◌∙◌, arith}
use Rattle.std.proofs.Math.Seq.{drop-length}
use Rattle.std.proofs.lemmas.List.{at_drop_more}
use Rattle.std.specs.Cow.{cow_str_bytes}
use Rattle.serde_json.specs.Data.{Data, item, member}
use Rattle.serde_json.specs.Find.{as_array, get_item}
use Rattle.serde_json.specs.Written.{has_float, items_have_float, members_have_float}
use Rattle.sig_json.specs.Gathered.{Entry}
use Rattle.sig_json.specs.View.{view, items_view, members_view}
use Rattle.sig_json.specs.declared.tree.Tree.{Tree}
use Rattle.sig_json.specs.List.{items_list, list_of}

pub length-items_list : (values : List Tree) → length (items_list (items_view values)) ≡ length values
length-items_list [] = refl
length-items_list (value ∷ values) = ap suc (length-items_list values)

-- from a place on
pub items_from : (values : List Tree) (i : ℕ) (value : Tree) → i < length values → value ≡ get_or values i value
    → items_view (drop i values) ≡ item (view value) (items_view (drop (i + 1) values))
items_from values i value h is =
    at_drop_more items_view values i value h ∙ ap (λ v. item (view v) (items_view (drop (i + 1) values))) (sym is)

-- members from a place on
pub members_from : (es : List Entry) (i : ℕ) (e : Entry) → i < length es → e ≡ get_or es i e
    → members_view (drop i es) ≡ member (cow_str_bytes e.0) (view e.1) (members_view (drop (i + 1) es))
members_from es i e h is =
    at_drop_more members_view es i e h
    ∙ ap (λ x. member (cow_str_bytes x.0) (view x.1) (members_view (drop (i + 1) es))) (sym is)

-- the member at a place, and those after it
pub next_entry : (es : List Entry) (i : ℕ) (e : Entry) → i < length es → e ≡ get_or es i e
    → drop i es ≡ e ∷ drop (i + 1) es
next_entry es i e h is = at_drop_more (λ l. l) es i e h ∙ ap (λ x. x ∷ drop (i + 1) es) (sym is)

pub none_left : {A : Type 0} → (xs : List A) (i : ℕ) → i ≡ length xs → drop i xs ≡ []
none_left xs i end = rw end (drop-length xs)

pub floats_more : (b : Bool) (trees : List Tree) (i : ℕ) (tree : Tree) → i < length trees → tree ≡ get_or trees i tree
    → false ≡ has_float (view tree) → b ≡ items_have_float (items_view (drop i trees))
    → b ≡ items_have_float (items_view (drop (i + 1) trees))
floats_more b trees i tree h is none so_far = so_far ∙ rw (items_from trees i tree h is, ← none) refl

pub floats_here : (b : Bool) (trees : List Tree) (i : ℕ) (tree : Tree) → i < length trees → tree ≡ get_or trees i tree
    → true ≡ has_float (view tree) → b ≡ items_have_float (items_view (drop i trees)) → true ≡ b
floats_here b trees i tree h is one so_far = sym (so_far ∙ rw (items_from trees i tree h is, ← one) refl)

pub floats_end : (b : Bool) (trees : List Tree) (i : ℕ) → i ≡ length trees
    → b ≡ items_have_float (items_view (drop i trees)) → false ≡ b
floats_end b trees i end so_far = sym (so_far ∙ rw (none_left trees i end) refl)

pub member_floats_more : (b : Bool) (es : List Entry) (i : ℕ) (e : Entry) → i < length es → e ≡ get_or es i e
    → false ≡ has_float (view e.1) → b ≡ members_have_float (members_view (drop i es))
    → b ≡ members_have_float (members_view (drop (i + 1) es))
member_floats_more b es i e h is none so_far = so_far ∙ rw (members_from es i e h is, ← none) refl

pub member_floats_here : (b : Bool) (es : List Entry) (i : ℕ) (e : Entry) → i < length es → e ≡ get_or es i e
    → true ≡ has_float (view e.1) → b ≡ members_have_float (members_view (drop i es)) → true ≡ b
member_floats_here b es i e h is one so_far = sym (so_far ∙ rw (members_from es i e h is, ← one) refl)

pub member_floats_end : (b : Bool) (es : List Entry) (i : ℕ) → i ≡ length es
    → b ≡ members_have_float (members_view (drop i es)) → false ≡ b
member_floats_end b es i end so_far = sym (so_far ∙ rw (none_left es i end) refl)

pub ruleset parts = (floats_more, floats_here, floats_end, member_floats_more, member_floats_here, member_floats_end)

-- the element at a place, and none past the end
pub element_at : (trees : List Tree) (i : ℕ) (tree : Tree) → i < length trees → tree ≡ get_or trees i tree
    → Some (view tree) ≡ get_item i (items_view trees)
element_at [] i tree h is = absurd (omega arith)
element_at (t ∷ trees) zero tree h is = ap (λ x. Some (view x)) is
element_at (t ∷ trees) (suc i) tree h is = element_at trees i tree (omega arith) is

pub element_past : (trees : List Tree) (i : ℕ) → length trees ≤ i → None ≡ get_item i (items_view trees)
element_past [] i h = refl
element_past (t ∷ trees) zero h = absurd (omega arith)
element_past (t ∷ trees) (suc i) h = element_past trees i (omega arith)

pub ruleset elements = (element_at, element_past)

pub length-list_of : (values : List Tree) (d : Data) → Some (items_view values) ≡ as_array d
    → Some (length values) ≡ option_map length (list_of d)
length-list_of values d e = rw (← e, length-items_list values) refl

pub ruleset lengths = (length-list_of)
