-- *Order of members*: how the members of an object are ordered in its canonical text (RFC 8785 section 3.2.3).
use Rattle.std.specs.Prelude.{◌≡◌, ℕ, List, [], ◌∷◌, ◌++◌, Option, Some, codes, ⊤}
use Rattle.std.specs.Cmp.Lexicographic.{slice_cmp}
use Rattle.std.specs.List.Sorted.{IsPermutation, IsStrictlySortedBy}
use Rattle.std.specs.Map.{keys_of, values_of}
use Rattle.std.specs.Ordering.{nat_cmp}
use Rattle.sig_base.specs.OptionSteps.{◌>>=◌}
use Rattle.serde_json.specs.Data.{Data, null, boolean, number, string, array, object, Items, no_items, item, Members}
use Rattle.serde_json.specs.Data.{no_members, member}
use Rattle.sig_json_text.specs.Canonical.{Sorted, canon, canon_string, in_braces, in_brackets, utf16_units}

-- the units of each member's name and its text, in the order of the members; `None` if some value has no canonical
-- text
abbrev pub member_texts : Members → Option Sorted
member_texts no_members = Some []
member_texts (member name d ms) =
    canon d >>= λ text. member_texts ms
    >>= λ texts. Some ((utf16_units name, canon_string name ++ (codes ":" ++ text)) ∷ texts)

-- names are compared as arrays of UTF-16 code units, and units as unsigned integers: the units of each name are below
-- those after it
abbrev pub UnitsAscend : Sorted → Type 0
UnitsAscend sorted = IsStrictlySortedBy (slice_cmp nat_cmp) (keys_of sorted)

-- `sorted` has the texts of all members, each once, in ascending order
pub record IsSorting (ms : Members) (sorted : Sorted) : Type 0 where
  pub texts : Sorted
  pub are : member_texts ms ≡ Some texts
  pub moved : IsPermutation texts sorted
  pub ascend : UnitsAscend sorted

-- the text of an object is its members' texts in order, and that of a list its elements' texts in turn, at every
-- depth: each element's and each member's canonical text keeps the order too
abbrev mutual
  pub KeepsOrder : Data → List ℕ → Type 0
  KeepsOrder null text = ⊤
  KeepsOrder (boolean b) text = ⊤
  KeepsOrder (number n) text = ⊤
  KeepsOrder (string s) text = ⊤
  KeepsOrder (array ds) text = (texts : List (List ℕ)) × InTurn ds texts × (text ≡ in_brackets texts)
  KeepsOrder (object ms) text =
      ((sorted : Sorted) × IsSorting ms sorted × (text ≡ in_braces (values_of sorted))) × ValuesKeepOrder ms

  -- one text for each element
  pub InTurn : Items → List (List ℕ) → Type 0
  InTurn no_items [] = ⊤
  InTurn (item d ds) (text ∷ texts) = (canon d ≡ Some text) × KeepsOrder d text × InTurn ds texts
  InTurn ds texts = ⊥

  pub ValuesKeepOrder : Members → Type 0
  ValuesKeepOrder no_members = ⊤
  ValuesKeepOrder (member name d ms) =
      ((text : List ℕ) × (canon d ≡ Some text) × KeepsOrder d text) × ValuesKeepOrder ms
