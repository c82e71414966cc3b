-- *Name text*: the text of a distinguished name (RFC 4514 section 2).
use Rattle.std.specs.Prelude.{ℕ, List, [], ◌∷◌, ◌++◌, length, nat_le, Bool, ◌||◌, ◌==◌, Option, Some, None}
use Rattle.std.specs.Prelude.{if◌then◌else◌}
use Rattle.std.specs.Str.{is_utf8}
use Rattle.sig_base.specs.OptionSteps.{◌>>=◌}
use Rattle.sig_name.specs.Name.{Part, parts_in}

-- ---- a value: section 2.4

-- one of "+,;<>\
abbrev pub is_special : ℕ → Bool
is_special b = (b == 34) || (b == 43) || (b == 44) || (b == 59) || (b == 60) || (b == 62) || (b == 92)

-- after a backslash, as is; and the null character as two digits
abbrev pub escaped : ℕ → List ℕ
escaped b = if is_special b then 92 ∷ b ∷ [] else if b == 0 then 92 ∷ 48 ∷ 48 ∷ [] else b ∷ []

-- at the beginning also a space and a number sign
abbrev pub escaped_first : ℕ → List ℕ
escaped_first b = if (b == 32) || (b == 35) then 92 ∷ b ∷ [] else escaped b

-- and at the end a space
abbrev pub escaped_last : ℕ → List ℕ
escaped_last b = if b == 32 then 92 ∷ b ∷ [] else escaped b

unfoldable pub after_first : List ℕ → List ℕ
after_first [] = []
after_first (b ∷ []) = escaped_last b
after_first (b ∷ next ∷ rest) = escaped b ++ after_first (next ∷ rest)

abbrev pub value_text : List ℕ → List ℕ
value_text [] = []
value_text (b ∷ rest) = escaped_first b ++ after_first rest

-- ---- a name: sections 2.1 to 2.3

-- TYPE=VALUE
abbrev pub part_text : Part → List ℕ
part_text part = part.0 ++ 61 ∷ value_text part.1

-- the last part comes first, with commas between
unfoldable pub parts_text : List Part → List ℕ
parts_text [] = []
parts_text (part ∷ []) = part_text part
parts_text (part ∷ next ∷ parts) = parts_text (next ∷ parts) ++ 44 ∷ part_text part

-- how many parts a name may have here
abbrev pub most_parts : ℕ
most_parts = 64

abbrev pub text_in : List ℕ → Option (List ℕ)
text_in bytes = if is_utf8 bytes then Some bytes else None

abbrev pub text_if : List Part → Option (List ℕ)
text_if parts = if nat_le (length parts) most_parts then text_in (parts_text parts) else None

-- the text of a name; `None` if the bytes are not such a name, it has more parts, or a value is not UTF-8
abbrev pub name_text : List ℕ → Option (List ℕ)
name_text der = parts_in der >>= text_if
