-- Decimal digits in texts of times: the texts, and the readers that go on from the front of a text.
use Rattle.std.specs.Prelude.{ℕ, ◌+◌, ◌-◌, ◌*◌, ◌/◌, ◌%◌, List, [], ◌∷◌, ◌++◌, Bool, ◌&&◌, nat_lt, Option, Some, None}
use Rattle.std.specs.Prelude.{◌==◌, if◌then◌else◌}
use Rattle.sig_base.specs.OptionSteps.{◌>>=◌}

-- ---- texts

abbrev pub two_digits : ℕ → List ℕ
two_digits n = (48 + n / 10) ∷ (48 + n % 10) ∷ []

abbrev pub four_digits : ℕ → List ℕ
four_digits n = two_digits (n / 100) ++ two_digits (n % 100)

-- the byte between two numbers, or nothing
abbrev pub mark_text : Option ℕ → List ℕ
mark_text None = []
mark_text (Some b) = b ∷ []

-- month and day, with the mark between them
abbrev pub day_text : Option ℕ → ℕ × ℕ → List ℕ
day_text mark (month, day) = two_digits month ++ (mark_text mark ++ two_digits day)

-- hour, minute and second, with the mark between them
abbrev pub clock_text : Option ℕ → ℕ × ℕ × ℕ → List ℕ
clock_text mark (hour, minute, second) =
    two_digits hour ++ (mark_text mark ++ (two_digits minute ++ (mark_text mark ++ two_digits second)))

-- ---- readers

abbrev pub is_digit : ℕ → Bool
is_digit b = nat_lt 47 b && nat_lt b 58

unfoldable pub two_at : List ℕ → Option (ℕ × List ℕ)
two_at [] = None
two_at (a ∷ []) = None
two_at (a ∷ b ∷ rest) = if is_digit a && is_digit b then Some ((a - 48) * 10 + (b - 48), rest) else None

unfoldable pub four_at : List ℕ → Option (ℕ × List ℕ)
four_at text = do
  high ← two_at text
  low ← two_at high.1
  Some (high.0 * 100 + low.0, low.1)

unfoldable pub skip : Option ℕ → List ℕ → Option (List ℕ)
skip None text = Some text
skip (Some b) [] = None
skip (Some b) (x ∷ rest) = if x == b then Some rest else None

unfoldable pub day_at : Option ℕ → List ℕ → Option ((ℕ × ℕ) × List ℕ)
day_at mark text = do
  month ← two_at text
  rest ← skip mark month.1
  day ← two_at rest
  Some ((month.0, day.0), day.1)

unfoldable pub clock_at : Option ℕ → List ℕ → Option ((ℕ × ℕ × ℕ) × List ℕ)
clock_at mark text = do
  hour ← two_at text
  after_hour ← skip mark hour.1
  minute ← two_at after_hour
  after_minute ← skip mark minute.1
  second ← two_at after_minute
  Some ((hour.0, minute.0, second.0), second.1)
