-- A signature takes more bytes in the list than by itself.
use Rattle.std.proofs.Common.{◌≡◌, ◌<◌, ◌≤◌, ◌+◌, ℕ, Bool, true, false, cond, List, [], ◌∷◌, ◌++◌, length, codes}
use Rattle.std.proofs.Common.{ap, arith, length-append, refl}
use Rattle.std.specs.Prelude.{All, nat_lt}
use Rattle.std.proofs.lemmas.List.Elements.{All-head, All-tail}
use Rattle.std.proofs.lemmas.List.Sums.{sum_by-cons}
use Rattle.base64.proofs.RoundTrip.{length-encode_symbols}
use Rattle.base64.specs.Engines.{standard}
use Rattle.base64.specs.Rfc4648.{encode_symbols}
use Rattle.json.specs.Print.{escape, escape_byte, escape_letter, quoted}
use Rattle.sig_base.specs.Base64.{base64_text}
use Rattle.sig_base.specs.declared.checker.AcceptedRow.{AcceptedRow}
use Rattle.sig_base.specs.declared.checker.Operation.{Operation}
use Rattle.sig_base.specs.declared.checker.Operation.TheVariants.{Message, Prehash, Point, Certificate}
use Rattle.sig_json.specs.Writing.{bytes_tree, members_into}
use Rattle.sig_json.specs.Data.{Members, member, no_members}
use Rattle.sig_json.specs.Written.{comma_if, compact_text, members_text}
use Rattle.sig_questions.specs.Rows.{HasScheme, IsSchemeUnder, bytes_of_rows, row_bytes}
use Rattle.sig_base.proofs.AcceptedRows.{as_row}
use Rattle.sig_reply.proofs.RowsTexts.{rows_text-length}
use Rattle.sig_reply.specs.RowsText.{operation_word, row_members, row_tree, rows_size, rows_text}

-- ---- a text in quotes, and bytes in base64

front-longer : (xs ys : List ℕ) (n : ℕ) → n ≤ length xs → n ≤ length (xs ++ ys)
front-longer xs ys n short = omega (arith, short, length-append xs ys)

of-choices : (a b : Bool) (xs ys zs : List ℕ) → 1 ≤ length xs → 1 ≤ length ys → 1 ≤ length zs
    → 1 ≤ length (cond a xs (cond b ys zs))
of-choices true b xs ys zs x y z = x
of-choices false true xs ys zs x y z = y
of-choices false false xs ys zs x y z = z

escaped-longer : (x : ℕ) → 1 ≤ length (escape_byte x)
unfolding escape_byte
escaped-longer x =
    of-choices (nat_lt 0 (escape_letter x)) (nat_lt x 32) _ _ _ (omega arith) (omega arith) (omega arith)

escape-longer : (text : List ℕ) → length text ≤ length (escape text)
escape-longer [] = omega arith
escape-longer (x ∷ text) =
    omega (arith, escaped-longer x, escape-longer text, length-append (escape_byte x) (escape text))

text-longer : (text : List ℕ) → length text ≤ length (quoted text)
text-longer text = omega (arith, escape-longer text, length-append (escape text) (34 ∷ []))

base64-longer : (bytes : List ℕ) → length bytes ≤ length (base64_text bytes)
unfolding base64_text
base64-longer bytes =
    front-longer (encode_symbols standard.encode_table bytes) _ (length bytes)
    (omega (arith, length-encode_symbols standard.encode_table bytes))

bytes-longer : (bytes : List ℕ) → length bytes ≤ length (compact_text (bytes_tree bytes))
unfolding bytes_tree
bytes-longer bytes = omega (arith, base64-longer bytes, text-longer (base64_text bytes))

-- ---- an object

-- how many bytes the values of members take
abbrev values_size : Members → ℕ
values_size no_members = 0
values_size (member name value ms) = length (compact_text value) + values_size ms

members-longer : (later : Bool) (ms : Members) → values_size ms ≤ length (members_text later ms)
members-longer later no_members = omega arith
members-longer later (member name value ms) =
    let rest = compact_text value ++ members_text true ms in
    omega (
      arith,
      members-longer true ms,
      length-append (comma_if later) (quoted name ++ 58 ∷ rest),
      length-append (quoted name) (58 ∷ rest),
      length-append (compact_text value) (members_text true ms),
    )

-- the members of a signature's object, in the byte order of their names
abbrev members_of : AcceptedRow → Members
members_of row = members_into no_members (row_members row)

object-longer : (row : AcceptedRow) → values_size (members_of row) ≤ length (compact_text (row_tree row))
unfolding row_tree
object-longer row = omega (arith, members-longer false (members_of row))

-- the values of a signature's members: key, message, operation, scheme, signature
sizes-with_text : (o : Operation) (s k m g : List ℕ)
    → values_size (members_of (as_row o s k m g)) ≡ length (compact_text (bytes_tree k))
    + (length (compact_text (bytes_tree m)) + (length (quoted (operation_word o)) + (length (quoted s)
    + (length (compact_text (bytes_tree g)) + 0))))
    → length s + (length k + (length m + length g)) ≤ length (compact_text (row_tree (as_row o s k m g)))
sizes-with_text o s k m g sizes =
    omega (
      arith,
      sizes,
      object-longer (as_row o s k m g),
      bytes-longer k,
      bytes-longer m,
      bytes-longer g,
      text-longer s,
    )

row-longer_by : (o : Operation) (s k m g : List ℕ) → IsSchemeUnder o s
    → length s + (length k + (length m + length g)) ≤ length (compact_text (row_tree (as_row o s k m g)))
row-longer_by Message s k m g named = sizes-with_text Message s k m g refl
row-longer_by Prehash s k m g named = sizes-with_text Prehash s k m g refl
row-longer_by Point s k m g none =
    let sizes : values_size (members_of (as_row Point s k m g)) ≡ length (compact_text (bytes_tree k))
    + (length (compact_text (bytes_tree m)) + (length (quoted (codes "point"))
    + (length (compact_text (bytes_tree g)) + 0))) = refl in
    omega (
      arith,
      sizes,
      object-longer (as_row Point s k m g),
      bytes-longer k,
      bytes-longer m,
      bytes-longer g,
      ap length none,
    )
row-longer_by Certificate s k m g any =
    let sizes : values_size (members_of (as_row Certificate s k m g)) ≡ length (compact_text (bytes_tree k))
    + (length (compact_text (bytes_tree m)) + (length (quoted (codes "certificate"))
    + (length (compact_text (bytes_tree s)) + (length (compact_text (bytes_tree g)) + 0)))) = refl in
    omega (
      arith,
      sizes,
      object-longer (as_row Certificate s k m g),
      bytes-longer k,
      bytes-longer m,
      bytes-longer g,
      bytes-longer s,
    )

row-longer : (row : AcceptedRow) → HasScheme row → row_bytes row ≤ length (compact_text (row_tree row))
row-longer row scheme = row-longer_by row.operation row.scheme row.key row.message row.signature scheme

-- ---- a list

rows-longer : (rows : List AcceptedRow) → All HasScheme rows → bytes_of_rows rows ≤ rows_size rows
rows-longer [] have = omega arith
rows-longer (row ∷ rows) have =
    omega (
      arith,
      sum_by-cons row_bytes row rows,
      row-longer row (All-head HasScheme row rows have),
      rows-longer rows (All-tail HasScheme row rows have),
    )

pub too-long : (most : ℕ) (rows : List AcceptedRow) → All HasScheme rows → most < bytes_of_rows rows
    → most < length (rows_text rows)
too-long most [] have long = absurd (omega (arith, long))
too-long most (row ∷ rows) have long =
    omega (arith, long, rows-longer (row ∷ rows) have, rows_text-length row rows)
