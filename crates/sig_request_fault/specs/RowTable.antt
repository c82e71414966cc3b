-- *Tables* of what the requests of several commands have: an accepted signature, row by row, and a log's entries.
use Rattle.std.specs.Prelude.{[], ◌∷◌, List, codes, Option, Some, None}
use Rattle.sig_base.specs.OptionSteps.{◌>>=◌}
use Rattle.sig_base.specs.declared.checker.Operation.{Operation}
use Rattle.sig_base.specs.declared.checker.Operation.TheVariants.{Message, Prehash, Point, Certificate}
use Rattle.sig_json.specs.Data.{Data}
use Rattle.sig_request.specs.Row.{operation_kind, scheme_kind}
use Rattle.sig_table.specs.Chosen.{nothing_table}
use Rattle.sig_table.specs.Kinds.{bytes_table, other_kind}
use Rattle.sig_table.specs.Table.{Table, leaf, elements, chosen, Row, optional_row, required_row, member_in, record_table}

-- a name of a signature scheme
unfoldable pub scheme_table : Table
scheme_table = leaf (other_kind scheme_kind)

unfoldable pub operation_table : Table
operation_table = leaf (other_kind operation_kind)

-- the operation of an accepted signature
abbrev pub operation_in : Data → Option Operation
operation_in d = member_in (codes "operation") d >>= operation_kind

-- the scheme: a scheme's name for a message and a digest, nothing for a point, and an algorithm element for a
-- certificate; without an operation the row of the operation is broken, and this one is not checked
abbrev pub scheme_row : Option Operation → Row
scheme_row None = optional_row (codes "scheme") nothing_table
scheme_row (Some Message) = required_row (codes "scheme") scheme_table
scheme_row (Some Prehash) = required_row (codes "scheme") scheme_table
scheme_row (Some Point) = optional_row (codes "scheme") nothing_table
scheme_row (Some Certificate) = required_row (codes "scheme") bytes_table

abbrev pub row_rows : Option Operation → List Row
row_rows operation =
    required_row (codes "operation") operation_table
    ∷ scheme_row operation
    ∷ required_row (codes "key") bytes_table
    ∷ required_row (codes "message") bytes_table
    ∷ required_row (codes "signature") bytes_table
    ∷ []

-- an accepted signature
unfoldable pub row_table : Table
row_table = chosen (λ d. record_table (row_rows (operation_in d)))

unfoldable pub accepted_table : Table
accepted_table = elements row_table

-- a log's entries
unfoldable pub entries_table : Table
entries_table = elements bytes_table
