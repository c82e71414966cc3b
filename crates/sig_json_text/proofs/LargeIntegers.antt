-- A tree without floats has no canonical text if and only if it holds a large integer.
use Rattle.std.proofs.Common.{◌≡◌, ◌↔◌, ◌-◌, ◌^◌, ◌||◌, ℕ, ℤ, pos, Bool, false, cond, nat_lt, List, [], ◌∷◌, Option}
use Rattle.std.proofs.Common.{Some, None, IsTrue, inl, inr, refl, sym, ap, ◌∙◌, arith}
use Rattle.std.proofs.lemmas.Bool.{lt-ltb, le-ltb, cases_lt, or_parts}
use Rattle.std.specs.Fmt.{signed_decimal}
use Rattle.std.specs.Map.{values_of}
use Rattle.std.specs.Option.{is_none}
use Rattle.std.specs.Prelude.{IsFalse, unsigned_abs}
use Rattle.sig_base.specs.OptionSteps.{◌>>=◌}
use Rattle.serde_json.specs.Data.{Num, unsigned, negative, float, Data, null, boolean, number, string, array, object}
use Rattle.serde_json.specs.Data.{Items, no_items, item, Members, no_members, member}
use Rattle.serde_json.specs.Find.{is_float, as_integer}
use Rattle.serde_json.specs.Written.{has_float, items_have_float, members_have_float}
use Rattle.sig_json_text.specs.Canonical.{Sorted, canon, canon_integer, canon_items, canon_members, in_braces, in_brackets}
use Rattle.sig_json_text.specs.Canonical.{with_text}
use Rattle.sig_json_text.specs.Large.{is_beyond, is_large, has_large, items_have_large, members_have_large}

-- ---- none of two steps

none_after : {A B : Type 0} → (found : Option A) (f : A → Option B) (later : Bool) → ((x : A) → is_none (f x) ≡ later)
    → is_none (found >>= f) ≡ is_none found || later
none_after None f later then = refl
none_after (Some x) f later then = then x

none_before : {A B : Type 0} → (found : Option A) (f : A → B) → is_none (found >>= λ x. Some (f x)) ≡ is_none found
none_before None f = refl
none_before (Some x) f = refl

-- ---- integers

by_size : (size : ℕ) (text : List ℕ)
    → is_none (cond (nat_lt size (2 ^ 53)) (Some text) None) ≡ nat_lt (2 ^ 53 - 1) size
by_size size text =
    elim (cases_lt size (2 ^ 53)) [
      | inl below ↦ rw (lt-ltb size (2 ^ 53) below, le-ltb (2 ^ 53 - 1) size (omega arith)) refl
      | inr above ↦ rw (le-ltb size (2 ^ 53) above, lt-ltb (2 ^ 53 - 1) size (omega arith)) refl
    ]

integer_none : (z : ℤ) → is_none (canon_integer z) ≡ is_beyond z
unfolding canon_integer is_beyond
integer_none z = by_size (unsigned_abs z) (signed_decimal z)

number_none : (n : Num) → is_float n ≡ false → is_none (as_integer n >>= canon_integer) ≡ is_large n
number_none (unsigned n) whole = integer_none (pos n)
number_none (negative z) whole = integer_none z
number_none (float x) whole = absurd cc

-- ---- trees

mutual
  none_of : (d : Data) → has_float d ≡ false → is_none (canon d) ≡ has_large d
  none_of null whole = refl
  none_of (boolean b) whole = refl
  none_of (number n) whole = number_none n whole
  none_of (string s) whole = refl
  none_of (array ds) whole = none_before (canon_items ds) in_brackets ∙ items_none ds whole
  none_of (object ms) whole =
      none_before (canon_members ms []) (λ sorted. in_braces (values_of sorted)) ∙ members_none ms [] whole

  items_none : (ds : Items) → items_have_float ds ≡ false → is_none (canon_items ds) ≡ items_have_large ds
  items_none no_items whole = refl
  items_none (item d ds) whole =
      let parts = or_parts (has_float d) (items_have_float ds) whole in
      none_after (canon d) _ (items_have_large ds)
      (λ text. none_before (canon_items ds) (λ texts. text ∷ texts) ∙ items_none ds parts.1)
      ∙ ap (λ large. large || items_have_large ds) (none_of d parts.0)

  members_none : (ms : Members) (sorted : Sorted) → members_have_float ms ≡ false
      → is_none (canon_members ms sorted) ≡ members_have_large ms
  members_none no_members sorted whole = refl
  members_none (member name d ms) sorted whole =
      let parts = or_parts (has_float d) (members_have_float ms) whole in
      none_after (canon d) _ (members_have_large ms) (λ text. members_none ms (with_text sorted name text) parts.1)
      ∙ ap (λ large. large || members_have_large ms) (none_of d parts.0)

is_none-iff : {A : Type 0} → (found : Option A) → (found ≡ None) ↔ IsTrue (is_none found)
is_none-iff None = ((λ is. refl), (λ is. refl))
is_none-iff (Some x) = ((λ is. absurd cc), (λ is. absurd cc))

pub large_exact : (d : Data) → has_float d ≡ false → (canon d ≡ None) ↔ IsTrue (has_large d)
large_exact d whole = rw (← none_of d whole) (is_none-iff (canon d))

pub large_where_none : (d : Data) → has_float d ≡ false → canon d ≡ None → IsTrue (has_large d)
large_where_none d whole = (large_exact d whole).0

pub none_large_where_some : (d : Data) (text : List ℕ) → has_float d ≡ false → canon d ≡ Some text
    → IsFalse (has_large d)
none_large_where_some d text whole is = sym (none_of d whole) ∙ ap is_none is

pub ruleset large_integers = (large_where_none, none_large_where_some)
