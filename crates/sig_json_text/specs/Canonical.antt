-- *Canonical text*: the text of a tree without floats by the JSON Canonicalization Scheme (RFC 8785).
use Rattle.std.specs.Prelude.{ℕ, ℤ, ◌++◌, ◌/◌, ◌%◌, ◌^◌, ◌==◌, ◌||◌, nat_lt, unsigned_abs, List, [], ◌∷◌, Option, Some}
use Rattle.std.specs.Prelude.{None, Result, Ok, Err, codes, chars, flat_map, if◌then◌else◌}
use Rattle.std.specs.BTreeMap.{insert_entry}
use Rattle.std.specs.Char.Escape.{encode_utf16}
use Rattle.std.specs.Char.{digit_char}
use Rattle.std.specs.Cmp.Lexicographic.{slice_cmp}
use Rattle.std.specs.Fmt.{signed_decimal}
use Rattle.std.specs.List.{join_by}
use Rattle.std.specs.Map.{values_of}
use Rattle.std.specs.Ordering.{nat_cmp}
use Rattle.sig_base.specs.OptionSteps.{◌>>=◌}
use Rattle.serde_json.specs.Data.{Data, null, boolean, number, string, array, object, Items, no_items, item, Members}
use Rattle.serde_json.specs.Data.{no_members, member}
use Rattle.serde_json.specs.Find.{as_integer}
use Rattle.sig_json_text.specs.declared.error.CanonicalError.{CanonicalError}
use Rattle.sig_json_text.specs.declared.error.CanonicalError.TheVariants.{IntegerTooLarge}

-- section 3.2.2.2: the two-letter escapes, `\u00` and two lower-case digits for the other controls, and all else as it
-- is
abbrev pub escape_of : ℕ → List ℕ
escape_of c =
    if (c == 34) || (c == 92) then 92 ∷ c ∷ []
    else if c == 8 then codes "\\b"
    else if c == 12 then codes "\\f"
    else if c == 10 then codes "\\n"
    else if c == 13 then codes "\\r"
    else if c == 9 then codes "\\t"
    else if nat_lt c 32 then codes "\\u00" ++ (digit_char (c / 16) ∷ digit_char (c % 16) ∷ [])
    else c ∷ []

unfoldable pub canon_string : List ℕ → List ℕ
canon_string text = 34 ∷ (flat_map escape_of text ++ 34 ∷ [])

-- section 3.2.2.3: an integer in decimal, where a number of 64 bits (IEEE 754) keeps it apart from its neighbours
unfoldable pub canon_integer : ℤ → Option (List ℕ)
canon_integer z = if nat_lt (unsigned_abs z) (2 ^ 53) then Some (signed_decimal z) else None

-- section 3.2.3: names are in the order of their UTF-16 code units
unfoldable pub utf16_units : List ℕ → List ℕ
utf16_units text = flat_map encode_utf16 (chars text)

-- texts of members by the units of their names
abbrev pub Sorted : Type 0
Sorted = List (List ℕ × List ℕ)

-- the member's text goes in at its place by the units of its name
unfoldable pub with_text : Sorted → List ℕ → List ℕ → Sorted
with_text sorted name text =
    insert_entry (slice_cmp nat_cmp) sorted (utf16_units name) (canon_string name ++ (codes ":" ++ text))

abbrev pub in_brackets : List (List ℕ) → List ℕ
in_brackets texts = codes "[" ++ (join_by (λ text. text) (codes ",") texts ++ codes "]")

abbrev pub in_braces : List (List ℕ) → List ℕ
in_braces texts = codes "{" ++ (join_by (λ text. text) (codes ",") texts ++ codes "}")

-- section 3.2: no white space; `None` if an integer of the tree is outside plus or minus 2^53 - 1
abbrev mutual
  pub canon : Data → Option (List ℕ)
  canon null = Some (codes "null")
  canon (boolean b) = Some (if b then codes "true" else codes "false")
  canon (number n) = as_integer n >>= canon_integer
  canon (string text) = Some (canon_string text)
  canon (array ds) = canon_items ds >>= λ texts. Some (in_brackets texts)
  canon (object ms) = canon_members ms [] >>= λ sorted. Some (in_braces (values_of sorted))

  pub canon_items : Items → Option (List (List ℕ))
  canon_items no_items = Some []
  canon_items (item d ds) = canon d >>= λ text. canon_items ds >>= λ texts. Some (text ∷ texts)

  -- the members into those that are sorted already
  pub canon_members : Members → Sorted → Option Sorted
  canon_members no_members sorted = Some sorted
  canon_members (member name d ms) sorted = canon d >>= λ text. canon_members ms (with_text sorted name text)

abbrev pub or_too_large : Option (List ℕ) → Result (List ℕ) CanonicalError
or_too_large None = Err IntegerTooLarge
or_too_large (Some text) = Ok text

-- the canonical text, or the error
abbrev pub canonical_of : Data → Result (List ℕ) CanonicalError
canonical_of d = or_too_large (canon d)
