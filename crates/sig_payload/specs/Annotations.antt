-- *Annotations*: whether what a signer says beside an image has the annotations that a caller asks for.
use Rattle.std.specs.Prelude.{ℕ, ℤ, List, [], ◌∷◌, codes, Bool, true, false, not, ◌&&◌, Option, Some, None}
use Rattle.std.specs.Fmt.{signed_decimal}
use Rattle.std.specs.List.{list_all}
use Rattle.std.specs.Str.{bytes_eq}
use Rattle.sig_json.specs.Find.{get, as_integer}
use Rattle.sig_json.specs.Data.{Data, null, boolean, number, string, array, object}
use Rattle.sig_json.specs.Members.{members_of}
use Rattle.sig_payload.specs.Signing.{Beside, Signing}

-- names with the texts that are asked for, in byte order of the names
abbrev pub Asked : Type 0
Asked = List (List ℕ × List ℕ)

-- the digits of a number; a float has none, and documents do not hold floats
abbrev pub is_number_said : List ℕ → Option ℤ → Bool
is_number_said text None = false
is_number_said text (Some n) = bytes_eq (signed_decimal n) text

abbrev pub is_truth_said : List ℕ → Bool → Bool
is_truth_said text true = bytes_eq text (codes "true")
is_truth_said text false = bytes_eq text (codes "false")

-- the value is this text, or a number or a truth value that is written so
unfoldable pub is_said : Data → List ℕ → Bool
is_said null text = false
is_said (boolean b) text = is_truth_said text b
is_said (number n) text = is_number_said text (as_integer n)
is_said (string s) text = bytes_eq s text
is_said (array ds) text = false
is_said (object ms) text = false

abbrev pub is_value_said : List ℕ → Option Data → Bool
is_value_said text None = false
is_value_said text (Some value) = is_said value text

-- the object has a member of this name, and its value is written so
abbrev pub is_annotated : Data → List ℕ × List ℕ → Bool
is_annotated extra asked = is_value_said asked.1 (get asked.0 extra)

abbrev pub are_annotated : Data → Asked → Bool
are_annotated extra asked = list_all (is_annotated extra) asked

abbrev pub is_no_member : Option (List (List ℕ × Data)) → Bool
is_no_member None = true
is_no_member (Some []) = true
is_no_member (Some (m ∷ ms)) = false

-- not an object, or one without members
unfoldable pub is_empty_extra : Data → Bool
is_empty_extra d = is_no_member (members_of d)

abbrev pub optional_satisfies : Beside → Asked → Bool
optional_satisfies beside asked = not (is_empty_extra beside.extra) && are_annotated beside.extra asked

abbrev pub beside_satisfies : Option Beside → Asked → Bool
beside_satisfies None asked = false
beside_satisfies (Some beside) asked = optional_satisfies beside asked

-- an empty list of required annotations is always satisfied
unfoldable pub satisfies : Signing → Asked → Bool
satisfies signing [] = true
satisfies signing (first ∷ others) = beside_satisfies signing.optional (first ∷ others)
