-- Equal trees, kind by kind and part by part.
use Rattle.std.proofs.Common.{◌≡◌, ◌↔◌, ℕ, zero, suc, ◌+◌, ◌<◌, ◌≤◌, ℤ, false, List, [], ◌∷◌, length, drop, get_or}
use Rattle.std.proofs.Common.{Some, None, refl, sym, ap, ◌∙◌, arith}
use Rattle.std.proofs.Math.Seq.{drop-length}
use Rattle.std.proofs.lemmas.Bool.{or_parts}
use Rattle.std.specs.Cow.{cow_str_bytes}
use Rattle.serde_json.specs.Written.{has_float, items_have_float, members_have_float}
use Rattle.serde_json.specs.Data.{Num, unsigned, negative, float, depth, items_depth, members_depth}
use Rattle.serde_json.specs.Find.{as_u64, as_i64, is_float}
use Rattle.sig_json.specs.Gathered.{Entry}
use Rattle.sig_json.specs.View.{view, items_view, members_view}
use Rattle.sig_json.specs.declared.tree.Tree.{Tree}
use Rattle.sig_json.proofs.ValueKinds.{as_null_is, as_bool_is, as_number_is, as_str_is, as_array_is, as_object_is}
use Rattle.sig_json.proofs.Lists.{items_from, length-items_list, members_from}
use Rattle.sig_json.specs.List.{items_list}

-- ---- numbers without floats

pub as_u64_is : (n : Num) (u : ℕ) → Some u ≡ as_u64 n → n ≡ unsigned u
as_u64_is (unsigned m) u e = cc
as_u64_is (negative z) u e = cc
as_u64_is (float x) u e = cc

pub as_i64_is : (n : Num) → is_float n ≡ false → None ≡ as_u64 n → (z : ℤ) × (n ≡ negative z) × (as_i64 n ≡ Some z)
as_i64_is (unsigned m) whole e = absurd cc
as_i64_is (negative z) whole e = (z, refl, refl)
as_i64_is (float x) whole e = absurd cc

pub same_negative : (a b : Num) → is_float a ≡ false → is_float b ≡ false → None ≡ as_u64 a → None ≡ as_u64 b
    → as_i64 a ≡ as_i64 b → a ≡ b
same_negative a b p q e f same =
    let x = as_i64_is a p e in
    let y = as_i64_is b q f in
    let z : x.0 ≡ y.0 = cc in x.1 ∙ ap negative z ∙ sym y.1

pub ruleset same_numbers = (as_u64_is, same_negative)

-- ---- lists, from a place on

abbrev pub SameFrom : List Tree → List Tree → ℕ → Type 0
SameFrom xs ys i = items_view (drop i xs) ≡ items_view (drop i ys)

pub SameFrom-more : (P : Type 0) (xs ys : List Tree) (i : ℕ) (x y : Tree) → i < length xs → i < length ys
    → x ≡ get_or xs i x → y ≡ get_or ys i y → view x ≡ view y → (P ↔ SameFrom xs ys i) → (P ↔ SameFrom xs ys (i + 1))
SameFrom-more P xs ys i x y h k xis yis same so_far =
    let a = items_from xs i x h xis in
    let b = items_from ys i y k yis in
    ((λ p. let whole : SameFrom xs ys i = so_far.0 p in cc), (λ rest. so_far.1 (a ∙ rw (same, rest) (sym b))))

pub SameFrom-other : (P : Type 0) (xs ys : List Tree) (i : ℕ) (x y : Tree) → i < length xs → i < length ys
    → x ≡ get_or xs i x → y ≡ get_or ys i y → (view x ≡ view y → ⊥) → (P ↔ SameFrom xs ys i) → P → ⊥
SameFrom-other P xs ys i x y h k xis yis other so_far p =
    let a = items_from xs i x h xis in
    let b = items_from ys i y k yis in
    let whole : SameFrom xs ys i = so_far.0 p in other cc

pub other_lengths : (xs ys : List Tree) → (length xs ≡ length ys → ⊥) → items_view xs ≡ items_view ys → ⊥
other_lengths xs ys other e =
    other (sym (length-items_list xs) ∙ ap (λ items. length (items_list items)) e ∙ length-items_list ys)

pub SameFrom-end : (P : Type 0) (xs ys : List Tree) (i : ℕ) → i ≡ length xs → length xs ≡ length ys
    → (P ↔ SameFrom xs ys i) → P
SameFrom-end P xs ys i whole lengths so_far =
    so_far.1 (rw (whole, drop-length xs, lengths, drop-length ys) refl)

pub items_depth_at : (vs : List Tree) (i : ℕ) (v : Tree) → i < length vs → v ≡ get_or vs i v
    → depth (view v) ≤ items_depth (items_view vs)
items_depth_at [] i v h is = absurd (omega arith)
items_depth_at (w ∷ vs) zero v h is = rw is (omega arith)
items_depth_at (w ∷ vs) (suc i) v h is = let below = items_depth_at vs i v (omega arith) is in omega arith

pub items_floatless_at : (vs : List Tree) (i : ℕ) (v : Tree) → i < length vs → v ≡ get_or vs i v
    → items_have_float (items_view vs) ≡ false → has_float (view v) ≡ false
items_floatless_at [] i v h is whole = absurd (omega arith)
items_floatless_at (w ∷ vs) zero v h is whole =
    rw is (or_parts (has_float (view w)) (items_have_float (items_view vs)) whole).0
items_floatless_at (w ∷ vs) (suc i) v h is whole =
    items_floatless_at vs i v (omega arith) is
    (or_parts (has_float (view w)) (items_have_float (items_view vs)) whole).1

-- ---- objects, from a place on

abbrev pub SameMembersFrom : List Entry → List Entry → ℕ → Type 0
SameMembersFrom xs ys i = members_view (drop i xs) ≡ members_view (drop i ys)

module _ (P : Type 0) (xs ys : List Entry) (i : ℕ) (x y : Entry) (h : i < length xs) (k : i < length ys)
    (xis : x ≡ get_or xs i x) (yis : y ≡ get_or ys i y) where
  pub members-more : cow_str_bytes x.0 ≡ cow_str_bytes y.0 → view x.1 ≡ view y.1 → (P ↔ SameMembersFrom xs ys i)
      → (P ↔ SameMembersFrom xs ys (i + 1))
  members-more names values so_far =
      let a = members_from xs i x h xis in
      let b = members_from ys i y k yis in (
        (λ p. let whole : SameMembersFrom xs ys i = so_far.0 p in cc),
        (λ rest. so_far.1 (a ∙ rw (names, values, rest) (sym b))),
      )

  pub members-other_name : (cow_str_bytes x.0 ≡ cow_str_bytes y.0 → ⊥) → (P ↔ SameMembersFrom xs ys i) → P → ⊥
  members-other_name other so_far p =
      let a = members_from xs i x h xis in
      let b = members_from ys i y k yis in
      let whole : SameMembersFrom xs ys i = so_far.0 p in other cc

  pub members-other_value : (view x.1 ≡ view y.1 → ⊥) → (P ↔ SameMembersFrom xs ys i) → P → ⊥
  members-other_value other so_far p =
      let a = members_from xs i x h xis in
      let b = members_from ys i y k yis in
      let whole : SameMembersFrom xs ys i = so_far.0 p in other cc

length-members_view : (xs ys : List Entry) → members_view xs ≡ members_view ys → length xs ≡ length ys
length-members_view [] [] e = refl
length-members_view [] (b ∷ ys) e = cc
length-members_view (a ∷ xs) [] e = cc
length-members_view (a ∷ xs) (b ∷ ys) e =
    let rest : members_view xs ≡ members_view ys = cc in ap suc (length-members_view xs ys rest)

pub members-other_lengths : (xs ys : List Entry) → (length xs ≡ length ys → ⊥) → members_view xs ≡ members_view ys → ⊥
members-other_lengths xs ys other e = other (length-members_view xs ys e)

pub members-end : (P : Type 0) (xs ys : List Entry) (i : ℕ) → i ≡ length xs → length xs ≡ length ys
    → (P ↔ SameMembersFrom xs ys i) → P
members-end P xs ys i whole lengths so_far =
    so_far.1 (rw (whole, drop-length xs, lengths, drop-length ys) refl)

pub members_depth_at : (es : List Entry) (i : ℕ) (e : Entry) → i < length es → e ≡ get_or es i e
    → depth (view e.1) ≤ members_depth (members_view es)
members_depth_at [] i e h is = absurd (omega arith)
members_depth_at (w ∷ es) zero e h is = rw is (omega arith)
members_depth_at (w ∷ es) (suc i) e h is = let below = members_depth_at es i e (omega arith) is in omega arith

pub members_floatless_at : (es : List Entry) (i : ℕ) (e : Entry) → i < length es → e ≡ get_or es i e
    → members_have_float (members_view es) ≡ false → has_float (view e.1) ≡ false
members_floatless_at [] i e h is whole = absurd (omega arith)
members_floatless_at (w ∷ es) zero e h is whole =
    rw is (or_parts (has_float (view w.1)) (members_have_float (members_view es)) whole).0
members_floatless_at (w ∷ es) (suc i) e h is whole =
    members_floatless_at es i e (omega arith) is
    (or_parts (has_float (view w.1)) (members_have_float (members_view es)) whole).1

pub ruleset same_members = (
  members-more,
  members-other_name,
  members-other_value,
  members-other_lengths,
  members-end,
  members_depth_at,
  members_floatless_at,
)

pub ruleset same_trees = (
  as_null_is,
  as_bool_is,
  as_number_is,
  as_str_is,
  as_array_is,
  as_object_is,
  SameFrom-more,
  SameFrom-other,
  SameFrom-end,
  other_lengths,
  items_depth_at,
  items_floatless_at,
)
