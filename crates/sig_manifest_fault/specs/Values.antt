-- *Values*: objects of free names, as those of trusted roots and of policies are.
use Rattle.std.specs.Prelude.{ℕ, List, map, Option, Some, None}
use Rattle.sig_json.specs.Data.{Data}
use Rattle.sig_json.specs.Members.{members_of}
use Rattle.sig_table.specs.Kinds.{object_table}
use Rattle.sig_table.specs.Table.{Table, Row, chosen, record_table, required_row}

-- a row for each member, under its own name
abbrev pub value_rows : Table → List (List ℕ × Data) → List Row
value_rows table ms = map (λ m. required_row m.0 table) ms

abbrev pub values_in : Table → Option (List (List ℕ × Data)) → Table
values_in table None = object_table
values_in table (Some ms) = record_table (value_rows table ms)

-- an object whose every member keeps to one table
unfoldable pub values_table : Table → Table
values_table table = chosen (λ d. values_in table (members_of d))
