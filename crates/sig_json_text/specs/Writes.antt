-- For private clauses: the parts of a canonical text, as the code appends them to one text.
use Rattle.std.specs.Prelude.{◌≡◌, ℕ, ◌++◌, ◌==◌, List, [], ◌∷◌, Option, Some, None, option_map, Result, Ok, Err}
use Rattle.std.specs.Prelude.{codes, if◌then◌else◌}
use Rattle.std.specs.BTreeMap.{insert_entry}
use Rattle.std.specs.Cmp.Lexicographic.{slice_cmp}
use Rattle.std.specs.Ordering.{nat_cmp}
use Rattle.sig_base.specs.OptionSteps.{◌>>=◌}
use Rattle.serde_json.specs.Data.{Data, Members, no_members, member}
use Rattle.sig_json.specs.View.{view}
use Rattle.sig_json_text.specs.Canonical.{canon, canon_string, utf16_units}
use Rattle.sig_json_text.specs.declared.named_member.Member.{Member}
use Rattle.sig_json_text.specs.declared.error.CanonicalError.{CanonicalError}
use Rattle.sig_json_text.specs.declared.error.CanonicalError.TheVariants.{IntegerTooLarge}

-- the given part is appended to the text, or `IntegerTooLarge` is returned if it is `None`, unless memory ran out
abbrev pub WritesPart : {X : Type 0} → List ℕ → Result X CanonicalError → List ℕ → Option (List ℕ) → Type 0
WritesPart before (Ok x) after meant = option_map (λ text. before ++ text) meant ≡ Some after
WritesPart before (Err e) after meant = e ≡ IntegerTooLarge → meant ≡ None

-- before the part at this place of a list or an object
abbrev pub comma_before : ℕ → List ℕ
comma_before place = if place == 0 then [] else codes ","

-- a name and the value that it has
abbrev pub Pair : Type 0
Pair = List ℕ × Data

abbrev pub pair_of : Member → Pair
pair_of m = (m.name.now, view m.value.now)

-- members by the units of their names
abbrev pub ByUnits : Type 0
ByUnits = List (List ℕ × Pair)

-- the members into those that are sorted already
abbrev pub by_units : Members → ByUnits → ByUnits
by_units no_members sorted = sorted
by_units (member name d ms) sorted = by_units ms (insert_entry (slice_cmp nat_cmp) sorted (utf16_units name) (name, d))

-- `None` if the value has no canonical text
abbrev pub member_text : Pair → Option (List ℕ)
member_text m = canon m.1 >>= λ text. Some (canon_string m.0 ++ (codes ":" ++ text))

abbrev pub texts_in_turn : List Pair → Option (List (List ℕ))
texts_in_turn [] = Some []
texts_in_turn (m ∷ ms) = member_text m >>= λ text. texts_in_turn ms >>= λ texts. Some (text ∷ texts)
