-- What is wrong with a value that is not of a kind, and the tables of single values.
use Rattle.std.specs.Prelude.{ℕ, ℤ, nat_lt, if◌then◌else◌, Option, Some, None, Bool, true, false, is_some}
use Rattle.sig_base.specs.OptionSteps.{◌>>=◌}
use Rattle.sig_json.specs.Data.{Data}
use Rattle.sig_json.specs.Integer.{integer_of}
use Rattle.sig_json.specs.Kinds.{bytes_of, hash_of, i64_of, text_of, u64_of}
use Rattle.sig_table.specs.Table.{Table, leaf, members, no_rows}
use Rattle.sig_table.specs.declared.fault.Cause.{Cause}
use Rattle.sig_table.specs.declared.fault.Cause.TheVariants.{BeyondRange, OtherKind}

-- a value that is read is sound, and any other is wrong for this cause
abbrev pub unless : Bool → Cause → Option Cause
unless true cause = None
unless false cause = Some cause

-- a kind without a range: a value that it does not read is of another kind
abbrev pub other_kind : {A : Type 0} → (Data → Option A) → Data → Option Cause
other_kind kind d = unless (is_some (kind d)) OtherKind

-- an integer that a kind of integers does not read is outside its range, and any other value is of another kind
abbrev pub not_in_range : Option ℤ → Cause
not_in_range None = OtherKind
not_in_range (Some z) = BeyondRange

abbrev pub beyond_range : {A : Type 0} → (Data → Option A) → Data → Option Cause
beyond_range kind d = unless (is_some (kind d)) (not_in_range (integer_of d))

-- ---- the tables of single values

abbrev pub text_table : Table
text_table = leaf (other_kind text_of)

abbrev pub bytes_table : Table
bytes_table = leaf (other_kind bytes_of)

abbrev pub hash_table : Table
hash_table = leaf (other_kind hash_of)

abbrev pub i64_table : Table
i64_table = leaf (beyond_range i64_of)

abbrev pub u64_table : Table
u64_table = leaf (beyond_range u64_of)

-- an integer from 0 to below this one
abbrev pub below : ℕ → Data → Option ℕ
below end d = u64_of d >>= λ n. if nat_lt n end then Some n else None

abbrev pub below_table : ℕ → Table
below_table end = leaf (beyond_range (below end))

-- an object, whatever members it has
abbrev pub object_table : Table
object_table = members no_rows
