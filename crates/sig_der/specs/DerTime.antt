-- Times in certificates: UTCTime and GeneralizedTime of X.690 section 11.7, 11.8 in the forms of RFC 5280 section
-- 4.1.2.5, with two more bounds: a UTCTime of the years 50 to 69 is rejected, and a GeneralizedTime is from 1970 on.
use Rattle.std.specs.Prelude.{◌≡◌, ℕ, ◌+◌, ◌%◌, ◌<◌, ◌≤◌, List, [], ◌∷◌, ◌++◌, ◌⊎◌, Bool, ◌||◌, nat_lt, Option, Some}
use Rattle.std.specs.Prelude.{None, ℤ, ◌==◌, if◌then◌else◌}
use Rattle.sig_base.specs.declared.fault.DerError.{DerError}
use Rattle.sig_base.specs.declared.fault.DerError.TheVariants.{WrongTag, Value}
use Rattle.sig_der.specs.declared.moment.Moment.{Moment}
use Rattle.sig_der.specs.Moment.{IsReal, IsSecondOf}
use Rattle.sig_der.specs.Digits.{two_digits, four_digits, day_text, clock_text, two_at, four_at, day_at, clock_at}
use Rattle.std.specs.Str.{bytes_eq}
use Rattle.sig_base.specs.OptionSteps.{◌>>=◌}
use Rattle.sig_der.specs.Tag.{GENERALIZED_TIME, UTC_TIME}

-- MMDDHHMMSSZ
abbrev pub after_year : Moment → List ℕ
after_year m = day_text None (m.month, m.day) ++ (clock_text None (m.hour, m.minute, m.second) ++ 90 ∷ [])

-- YYMMDDHHMMSSZ, where 70 to 99 are 1970 to 1999 and 00 to 49 are 2000 to 2049
pub record IsUtcTime (text : List ℕ) (m : Moment) : Type 0 where
  pub real : IsReal m
  pub from : 1970 ≤ m.year
  pub to : m.year < 2050
  pub spelled : text ≡ two_digits (m.year % 100) ++ after_year m

-- YYYYMMDDHHMMSSZ, from 1970 to 9999
pub record IsGeneralizedTime (text : List ℕ) (m : Moment) : Type 0 where
  pub real : IsReal m
  pub from : 1970 ≤ m.year
  pub spelled : text ≡ four_digits m.year ++ after_year m

-- the second since 1970 of an element of this tag and this content: a UTCTime or a GeneralizedTime
abbrev pub IsTimeOf : ℕ → List ℕ → ℤ → Type 0
IsTimeOf tag content second =
    ((tag ≡ UTC_TIME) × IsSecondOf (IsUtcTime content) second)
    ⊎ ((tag ≡ GENERALIZED_TIME) × IsSecondOf (IsGeneralizedTime content) second)

-- why an element is not a time
abbrev pub time_fault : ℕ → DerError
time_fault tag = if (tag == UTC_TIME) || (tag == GENERALIZED_TIME) then Value else WrongTag

-- ---- readers

abbrev pub full_year : ℕ → Option ℕ
full_year year = if nat_lt year 50 then Some (2000 + year) else if nat_lt year 70 then None else Some (1900 + year)

abbrev pub moment_of : ℕ → ℕ × ℕ → ℕ × ℕ × ℕ → Moment
moment_of year day clock =
    record { year = year; month = day.0; day = day.1; hour = clock.0; minute = clock.1; second = clock.2 }

abbrev pub is_zulu : List ℕ → Bool
is_zulu text = bytes_eq text (90 ∷ [])

unfoldable pub rest_at : ℕ → List ℕ → Option Moment
rest_at year text = do
  day ← day_at None text
  clock ← clock_at None day.1
  if is_zulu clock.1 then Some (moment_of year day.0 clock.0) else None

unfoldable pub utc_at : List ℕ → Option Moment
utc_at text = do
  short ← two_at text
  year ← full_year short.0
  rest_at year short.1

unfoldable pub generalized_at : List ℕ → Option Moment
generalized_at text = do
  year ← four_at text
  if nat_lt year.0 1970 then None else rest_at year.0 year.1
