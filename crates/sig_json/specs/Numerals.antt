-- For private clauses: what the code keeps of a text's digits.
use Rattle.std.specs.Prelude.{ℕ, ◌^◌, nat_lt, Option, Some, None, if◌then◌else◌}

-- below 2^64, within which every range of a table lies
abbrev pub below_word : ℕ → Option ℕ
below_word n = if nat_lt n (2 ^ 64) then Some n else None
