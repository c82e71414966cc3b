-- What a source and a sink over memory are.
use Rattle.std.specs.Prelude.{ℕ, ◌+◌, ◌-◌, ◌^◌, min, List, ◌<◌, Contains}

-- a source over memory: the bytes that are left; the greatest count of one call; the numbers of the calls that fail;
-- how many calls there were so far, and how many of them failed
pub record Supply : Type 0 where
  pub left : List ℕ
  pub piece : ℕ
  pub failing : List ℕ
  pub calls : ℕ
  pub faults : ℕ

-- a sink over memory: the bytes that it took; for how many more there is room; and the rest as for a source
pub record Store : Type 0 where
  pub taken : List ℕ
  pub room : ℕ
  pub piece : ℕ
  pub failing : List ℕ
  pub calls : ℕ
  pub faults : ℕ

-- one more, where a `u64` has room for it
abbrev pub one_more : ℕ → ℕ
one_more count = min (count + 1) (2 ^ 64 - 1)

-- the call of this number fails; at the counter's greatest value none does
abbrev pub FailsAt : List ℕ → ℕ → Type 0
FailsAt failing calls = (calls < 2 ^ 64 - 1) × Contains failing calls
