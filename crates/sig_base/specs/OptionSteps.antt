-- Steps one after another, for `do`: the first that finds nothing ends them. And one in place of another.
use Rattle.std.specs.Prelude.{Option, Some, None, option_and_then}

infixl 10 ◌>>=◌
abbrev pub ◌>>=◌ : {A B : Type 0} → Option A → (A → Option B) → Option B
found >>= next = option_and_then next found

-- what the first finds, or else what the second does
abbrev pub or_else : {A : Type 0} → Option A → Option A → Option A
or_else (Some found) other = Some found
or_else None other = other
