-- A map from texts, as the list of its entries in byte order of the texts.
use Rattle.std.specs.Prelude.{ℕ, List, [], ◌∷◌, map, Option, None, Some, bytes_eq, if◌then◌else◌, String, string_bytes}
use Rattle.std.specs.declared.alloc.Global.{Global}
use Rattle.std.specs.Ordering.{nat_cmp}
use Rattle.std.specs.Cmp.Lexicographic.{slice_cmp}
use Rattle.std.specs.BTreeMap.{insert_entry}
use Rattle.std.specs.Map.{keys_of}
use Rattle.std.specs.List.Sorted.{IsStrictlySortedBy}

module _ {V : Type 0} where
  -- the entries of a tree whose keys are strings
  abbrev pub text_entries : List (String Global × V) → List (List ℕ × V)
  text_entries entries = map (λ e. (string_bytes e.0, e.1)) entries

  -- the value of a text
  abbrev pub text_lookup : List ℕ → List (List ℕ × V) → Option V
  text_lookup text [] = None
  text_lookup text (e ∷ es) = if bytes_eq text e.0 then Some e.1 else text_lookup text es

  -- the entries with this value for the text: in place of its old value, or as a new entry at its index in the order
  abbrev pub text_put : List ℕ → V → List (List ℕ × V) → List (List ℕ × V)
  text_put text value entries = insert_entry (slice_cmp nat_cmp) entries text value

  -- each text is below those after it in byte order, so none is there twice
  abbrev pub KeysAscend : List (List ℕ × V) → Type 0
  KeysAscend entries = IsStrictlySortedBy (slice_cmp nat_cmp) (keys_of entries)
