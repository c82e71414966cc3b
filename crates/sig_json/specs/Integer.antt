-- An integer: a whole JSON number, or a text of an optional `-` and one or more digits.
use Rattle.std.specs.Prelude.{ℕ, ◌+◌, ◌*◌, ◌-◌, ◌^◌, ◌&&◌, ◌==◌, nat_lt, ℤ, pos, negsuc, neg_ℤ, List, [], ◌∷◌, length}
use Rattle.std.specs.Prelude.{Option, Some, None, option_map, if◌then◌else◌}
use Rattle.std.specs.Char.{is_ascii_digit}
use Rattle.std.specs.List.{list_all}
use Rattle.serde_json.specs.Data.{Data, null, boolean, number, string, array, object}
use Rattle.serde_json.specs.Find.{as_integer}

-- the number that `digits` write after `before`
abbrev pub value_after : ℕ → List ℕ → ℕ
value_after before [] = before
value_after before (digit ∷ digits) = value_after (10 * before + (digit - 48)) digits

-- one digit or more, leading zeros included
unfoldable pub natural_text : List ℕ → Option ℕ
natural_text text = if list_all is_ascii_digit text && nat_lt 0 (length text) then Some (value_after 0 text) else None

-- `-` (45) turns the sign, and `-0` is 0
unfoldable pub integer_text : List ℕ → Option ℤ
integer_text [] = None
integer_text (first ∷ rest) =
    if first == 45 then option_map (λ n. neg_ℤ (pos n)) (natural_text rest) else option_map pos
    (natural_text (first ∷ rest))

abbrev pub integer_of : Data → Option ℤ
integer_of null = None
integer_of (boolean b) = None
integer_of (number n) = as_integer n
integer_of (string text) = integer_text text
integer_of (array items) = None
integer_of (object entries) = None

-- the ranges: 0 to 2^64 - 1, and -2^63 to 2^63 - 1
abbrev pub in_u64 : ℤ → Option ℕ
in_u64 (pos n) = if nat_lt n (2 ^ 64) then Some n else None
in_u64 (negsuc n) = None

abbrev pub in_i64 : ℤ → Option ℤ
in_i64 (pos n) = if nat_lt n (2 ^ 63) then Some (pos n) else None
in_i64 (negsuc n) = if nat_lt n (2 ^ 63) then Some (negsuc n) else None
