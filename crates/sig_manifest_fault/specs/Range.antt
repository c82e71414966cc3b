-- The table of a member whose kind an earlier row has, and which has to be in a range too.
use Rattle.std.specs.Prelude.{Option, is_some}
use Rattle.sig_json.specs.Data.{Data}
use Rattle.sig_table.specs.Kinds.{unless}
use Rattle.sig_table.specs.Table.{Table, leaf}
use Rattle.sig_table.specs.declared.fault.Cause.{Cause}
use Rattle.sig_table.specs.declared.fault.Cause.TheVariants.{BeyondRange}

-- a value that this does not read is outside its range
abbrev pub beyond : {A : Type 0} → (Data → Option A) → Data → Option Cause
beyond kind d = unless (is_some (kind d)) BeyondRange

abbrev pub range_table : {A : Type 0} → (Data → Option A) → Table
range_table kind = leaf (beyond kind)
