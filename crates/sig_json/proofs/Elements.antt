-- A list read element by element: what is read so far, and the elements that are left.
use Rattle.std.proofs.Common.{◌≡◌, ℕ, zero, suc, ◌<◌, ◌+◌, List, [], ◌∷◌, ◌++◌, length, map, drop, get_or, Option}
use Rattle.std.proofs.Common.{Some, None, arith}
use Rattle.std.proofs.Common.{false, refl, sym, ap, subst, ◌∙◌, append_assoc, append-nil}
use Rattle.std.proofs.lemmas.List.{map-append}
use Rattle.sig_base.specs.OptionSteps.{◌>>=◌}
use Rattle.serde_json.specs.Data.{Data, null, boolean, number, string, array, object, Items}
use Rattle.serde_json.specs.Find.{as_array}
use Rattle.serde_json.specs.Written.{has_float}
use Rattle.sig_json.proofs.ValueKinds.{as_array_is}
use Rattle.sig_json.proofs.Lists.{items_from, none_left}
use Rattle.sig_json.proofs.SameTrees.{items_floatless_at}
use Rattle.sig_json.specs.List.{items_list}
use Rattle.sig_json.specs.Member.{each, list_each}
use Rattle.sig_json.specs.NamedTree.{IsNamedTree, AreNamed}
use Rattle.sig_json.specs.SeenAs.{SeenAs}
use Rattle.sig_json.specs.View.{view, items_view}
use Rattle.sig_json.specs.declared.tree.Tree.{Tree}

-- what is read so far, and after it what is left
abbrev pub read_with : {A : Type 0} → (Data → Option A) → List A → Items → Option (List A)
read_with kind done left = each kind (items_list left) >>= λ rest. Some (done ++ rest)

pub list_each-no_list : {A : Type 0} → (kind : Data → Option A) (d : Data) → None ≡ as_array d
    → list_each kind d ≡ None
unfolding list_each
list_each-no_list kind null e = refl
list_each-no_list kind (boolean b) e = refl
list_each-no_list kind (number n) e = refl
list_each-no_list kind (string s) e = refl
list_each-no_list kind (array ds) e = cc
list_each-no_list kind (object ms) e = refl

nothing_before : {A : Type 0} → (found : Option (List A)) → found ≡ (found >>= λ rest. Some ([] ++ rest))
nothing_before None = refl
nothing_before (Some rest) = refl

pub list_each-start : {X : Type 0} → (seen_as : SeenAs X) (kind : Data → Option seen_as.Value) (d : Data)
    (values : List Tree) (found : List X) → found ≡ [] → Some (items_view values) ≡ as_array d
    → list_each kind d ≡ read_with kind (map seen_as.item found) (items_view values)
unfolding list_each
list_each-start seen_as kind d values found none e =
    rw (as_array_is d (items_view values) e, none) (nothing_before (each kind (items_list (items_view values))))

one_more : {A : Type 0} → (done : List A) (x : A) (found : Option (List A))
    → (found >>= (λ xs. Some (x ∷ xs)) >>= λ rest. Some (done ++ rest))
    ≡ (found >>= λ rest. Some ((done ++ x ∷ []) ++ rest))
one_more done x None = refl
one_more done x (Some rest) = ap Some (sym (append_assoc done (x ∷ []) rest))

-- one item more is pushed after those that were read
pub list_each-more : {X : Type 0} → (seen_as : SeenAs X) (kind : Data → Option seen_as.Value) (d : Data)
    (values : List Tree) (i : ℕ) (value : Tree) (x : X) (found after : List X)
    → i < length values → value ≡ get_or values i value → kind (view value) ≡ Some (seen_as.item x)
    → after ≡ found ++ x ∷ []
    → list_each kind d ≡ read_with kind (map seen_as.item found) (items_view (drop i values))
    → list_each kind d ≡ read_with kind (map seen_as.item after) (items_view (drop (i + 1) values))
list_each-more seen_as kind d values i value x found after h is read pushed so_far =
    so_far
    ∙ rw (items_from values i value h is, read, pushed, map-append seen_as.item found (x ∷ []))
    (one_more (map seen_as.item found) (seen_as.item x)
    (each kind (items_list (items_view (drop (i + 1) values)))))

pub list_each-end : {X : Type 0} → (seen_as : SeenAs X) (kind : Data → Option seen_as.Value) (d : Data)
    (values : List Tree) (i : ℕ) (found : List X) → i ≡ length values
    → list_each kind d ≡ read_with kind (map seen_as.item found) (items_view (drop i values))
    → list_each kind d ≡ Some (seen_as.list found)
list_each-end seen_as kind d values i found end so_far =
    so_far ∙ rw (none_left values i end) (ap Some (append-nil (map seen_as.item found) ∙ seen_as.list_is found))

pub list_each-refused : {A : Type 0} → (kind : Data → Option A) (d : Data) (values : List Tree) (i : ℕ) (value : Tree)
    (done : List A) → i < length values → value ≡ get_or values i value → kind (view value) ≡ None
    → list_each kind d ≡ read_with kind done (items_view (drop i values)) → list_each kind d ≡ None
list_each-refused kind d values i value done h is refused so_far =
    so_far ∙ rw (items_from values i value h is, refused) refl

-- ---- an element is a view as the list is

pub element_floatless : (d : Data) (values : List Tree) (i : ℕ) (value : Tree) → has_float d ≡ false
    → Some (items_view values) ≡ as_array d → i < length values → value ≡ get_or values i value
    → has_float (view value) ≡ false
element_floatless d values i value whole e h is =
    items_floatless_at values i value h is
    (subst (λ t. has_float t ≡ false) (as_array_is d (items_view values) e) whole)

pub items_named_at : (trees : List Tree) (i : ℕ) (tree : Tree) → i < length trees → tree ≡ get_or trees i tree
    → AreNamed (items_view trees) → IsNamedTree (view tree)
items_named_at [] i tree h is named = absurd (omega arith)
items_named_at (t ∷ trees) zero tree h is named = rw is named.0
items_named_at (t ∷ trees) (suc i) tree h is named = items_named_at trees i tree (omega arith) is named.1

pub element_named : (d : Data) (values : List Tree) (i : ℕ) (value : Tree) → IsNamedTree d
    → Some (items_view values) ≡ as_array d → i < length values → value ≡ get_or values i value
    → IsNamedTree (view value)
element_named d values i value named e h is =
    items_named_at values i value h is (subst IsNamedTree (as_array_is d (items_view values) e) named)

pub ruleset elements = (
  list_each-no_list,
  list_each-start,
  list_each-more,
  list_each-end,
  list_each-refused,
  element_floatless,
  element_named,
)
