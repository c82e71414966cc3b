-- *Name*: a distinguished name (RFC 5280 section 4.1.2.4) whose parts have an attribute each, of a type that has a name
-- and of a value that is a text.
--
--   Name ::= SEQUENCE OF SET OF SEQUENCE { type OBJECT IDENTIFIER, value ANY DEFINED BY type }
use Rattle.std.specs.Prelude.{ℕ, List, [], ◌∷◌, length, Bool, ◌&&◌, ◌||◌, ◌==◌, codes, Option, Some, None, if◌then◌else◌}
use Rattle.std.specs.Str.{bytes_eq}
use Rattle.sig_base.specs.OptionSteps.{◌>>=◌}
use Rattle.sig_der.specs.Tag.{OBJECT_IDENTIFIER, SEQUENCE, SET, UTF8_STRING}
use Rattle.sig_der.specs.FrontReaders.{many_at, take_any, take_tag, take_whole}

-- the name of an attribute's type, and its value
abbrev pub Part : Type 0
Part = List ℕ × List ℕ

-- the names of types, by the contents of their object identifiers: RFC 4514 section 3
abbrev pub type_name : List ℕ → Option (List ℕ)
type_name oid =
    if bytes_eq oid (85 ∷ 4 ∷ 3 ∷ []) then Some (codes "CN")
    else if bytes_eq oid (85 ∷ 4 ∷ 6 ∷ []) then Some (codes "C")
    else if bytes_eq oid (85 ∷ 4 ∷ 7 ∷ []) then Some (codes "L")
    else if bytes_eq oid (85 ∷ 4 ∷ 8 ∷ []) then Some (codes "ST")
    else if bytes_eq oid (85 ∷ 4 ∷ 9 ∷ []) then Some (codes "STREET")
    else if bytes_eq oid (85 ∷ 4 ∷ 10 ∷ []) then Some (codes "O")
    else if bytes_eq oid (85 ∷ 4 ∷ 11 ∷ []) then Some (codes "OU")
    else if bytes_eq oid (9 ∷ 146 ∷ 38 ∷ 137 ∷ 147 ∷ 242 ∷ 44 ∷ 100 ∷ 1 ∷ 25 ∷ []) then Some (codes "DC")
    else if bytes_eq oid (9 ∷ 146 ∷ 38 ∷ 137 ∷ 147 ∷ 242 ∷ 44 ∷ 100 ∷ 1 ∷ 1 ∷ []) then Some (codes "UID")
    else None

-- PrintableString, universal 19, and IA5String, universal 22 (X.680 section 8.4 table 1)
abbrev pub printable_string : ℕ
printable_string = 19

abbrev pub ia5_string : ℕ
ia5_string = 22

abbrev pub is_text_tag : ℕ → Bool
is_text_tag tag = (tag == UTF8_STRING) || (tag == printable_string) || (tag == ia5_string)

-- a SEQUENCE of a type and a text, which is all of the bytes
unfoldable pub attribute_in : List ℕ → Option Part
attribute_in bytes = do
  pair ← take_whole SEQUENCE bytes
  kind ← take_tag OBJECT_IDENTIFIER pair.content
  value ← take_any kind.1
  name ← type_name kind.0.content
  if is_text_tag value.0.tag && (length value.1 == 0) then Some (name, value.0.content) else None

-- a SET of one attribute, and what follows it
unfoldable pub part_at : List ℕ → Option (Part × List ℕ)
part_at bytes = do
  set ← take_tag SET bytes
  attribute ← attribute_in set.0.content
  Some (attribute, set.1)

-- the parts of a name, in order
unfoldable pub parts_in : List ℕ → Option (List Part)
parts_in der = take_whole SEQUENCE der >>= λ name. many_at part_at name.content
