-- The kinds of JSON numbers (RFC 8259 section 6): integers, and not texts of digits.
use Rattle.std.specs.Prelude.{ℕ, ℤ, Option, option_and_then}
use Rattle.sig_base.specs.OptionSteps.{◌>>=◌}
use Rattle.serde_json.specs.Data.{Data}
use Rattle.serde_json.specs.Find.{as_integer, as_number}
use Rattle.sig_json.specs.Integer.{in_u64, in_i64}

-- the integer that a number is
abbrev pub number_of : Data → Option ℤ
number_of d = option_and_then as_integer (as_number d)

unfoldable pub u64_number_of : Data → Option ℕ
u64_number_of d = number_of d >>= in_u64

unfoldable pub i64_number_of : Data → Option ℤ
i64_number_of d = number_of d >>= in_i64
