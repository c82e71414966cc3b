-- For private clauses: how much is left of a number.
use Rattle.std.specs.Prelude.{ℕ, ◌-◌, nat_lt, if◌then◌else◌, Option, Some, None}

-- what is left of `most` after `taken`; `None` if `taken` is more
abbrev pub left_of : ℕ → ℕ → Option ℕ
left_of most taken = if nat_lt most taken then None else Some (most - taken)
