-- How much of its input a command takes.
use Rattle.std.specs.Prelude.{◌≡◌, ℕ, ◌^◌, ◌+◌, List, drop, ⊤, Option, None, Some}

-- a request has at most this many bytes
abbrev pub most_bytes : ℕ
most_bytes = 2 ^ 24

-- the bytes that were taken are all that were left, or, where those are more, the first n of them: then the others are
-- still left
abbrev pub TakesUpTo : ℕ → Option (List ℕ) → Option (List ℕ) → List ℕ → Type 0
TakesUpTo n None new bytes = ⊤
TakesUpTo n (Some all) new bytes = (bytes ≡ all) × (new ≡ Some (drop n all))

-- the bytes that are taken for a request: all that are left, or, of more, the first that show that they are too many
abbrev pub TakesRequest : Option (List ℕ) → Option (List ℕ) → List ℕ → Type 0
TakesRequest = TakesUpTo (most_bytes + 1)
