-- *Rank*: a number that tells most texts apart without a look at them, of the bytes after those with which all begin.
use Rattle.std.specs.Prelude.{ℕ, zero, suc, Bool, false, ◌+◌, ◌*◌, List, [], ◌∷◌, Option, None, Some, drop}
use Rattle.std.specs.Prelude.{length, nat_eq, slice_get, if◌then◌else◌}

-- a byte as a digit, of which an absent one is the least
abbrev pub digit_of : Option ℕ → ℕ
digit_of None = 0
digit_of (Some byte) = byte + 1

abbrev pub rank_digit : List ℕ → ℕ → ℕ
rank_digit text index = digit_of (slice_get text index)

-- the first seven bytes as a number
unfoldable pub rank : List ℕ → ℕ
rank text =
    let three = (rank_digit text 0 * 257 + rank_digit text 1) * 257 + rank_digit text 2 in
    let five = (three * 257 + rank_digit text 3) * 257 + rank_digit text 4 in
    (five * 257 + rank_digit text 5) * 257 + rank_digit text 6

-- the first seven from this one on
abbrev pub rank_from : ℕ → List ℕ → ℕ
rank_from from text = rank (drop from text)

-- there are two bytes, and they are the same
abbrev pub is_same : Option ℕ → Option ℕ → Bool
is_same None o = false
is_same (Some byte) None = false
is_same (Some byte) (Some against) = nat_eq byte against

-- with how many bytes, at most so many, two texts begin alike
abbrev pub alike : ℕ → List ℕ → List ℕ → ℕ
alike zero one other = 0
alike (suc most) [] other = 0
alike (suc most) (a ∷ one) [] = 0
alike (suc most) (a ∷ one) (b ∷ other) = if nat_eq a b then suc (alike most one other) else 0

-- with how many, at most so many, a text and each of the others do
abbrev pub alike_with : List ℕ → ℕ → List (List ℕ) → ℕ
alike_with first most [] = most
alike_with first most (text ∷ texts) = alike_with first (alike most first text) texts

-- with how many bytes all texts begin alike
abbrev pub shared : List (List ℕ) → ℕ
shared [] = 0
shared (first ∷ texts) = alike_with first (length first) texts
