-- Bytes as lower case hexadecimal digits, the high four bits of a byte first.
use Rattle.std.specs.Prelude.{ℕ, ◌/◌, ◌%◌, List, [], ◌∷◌, codes, slice_index}
use Rattle.std.specs.List.{flat_map}

-- the sixteen digits
abbrev pub digits : List ℕ
digits = codes "0123456789abcdef"

-- the two digits of a byte
abbrev pub hex_pair : ℕ → List ℕ
hex_pair byte = slice_index digits (byte / 16) ∷ slice_index digits (byte % 16) ∷ []

-- the digits of some bytes
abbrev pub hex : List ℕ → List ℕ
hex bytes = flat_map hex_pair bytes
