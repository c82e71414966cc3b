-- A table beside a kind of sig_json, which says what a tree means.
use Rattle.std.specs.Prelude.{◌≡◌, Option, is_some}
use Rattle.sig_json.specs.Data.{Data}
use Rattle.sig_table.specs.Table.{Table, fits}

-- the table is that of a kind: a tree keeps to it if and only if the kind reads the tree
abbrev pub IsTableOf : {A : Type 0} → (Data → Option A) → Table → Type 0
IsTableOf kind table = (d : Data) → fits table d ≡ is_some (kind d)
