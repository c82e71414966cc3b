-- Time texts: RFC 3339 section 5.6 in one profile: upper-case `T` and `Z`, a fraction of one to nine digits, no leap
-- seconds, years from 1 to 9999. The second is the floor of the instant, so the fraction does not count.
use Rattle.std.specs.Prelude.{◌≡◌, ℕ, suc, zero, ◌+◌, ◌*◌, ◌<◌, ◌≤◌, List, [], ◌∷◌, ◌++◌, length, Bool, true, false}
use Rattle.std.specs.Prelude.{◌&&◌, nat_lt, Option, Some, None, ℤ, pos, neg_ℤ, ◌-ℤ◌, ◌==◌, if◌then◌else◌}
use Rattle.std.specs.List.{AllByRecursion}
use Rattle.sig_base.specs.OptionSteps.{◌>>=◌}
use Rattle.sig_der.specs.declared.moment.Moment.{Moment}
use Rattle.sig_der.specs.Moment.{IsReal, second_of}
use Rattle.sig_der.specs.Digits.{two_digits, four_digits, day_text, clock_text, is_digit, two_at, four_at, skip}
use Rattle.sig_der.specs.Digits.{day_at, clock_at}
use Rattle.sig_der.specs.DerTime.{moment_of}

-- YYYY-MM-DDTHH:MM:SS
abbrev pub front_text : Moment → List ℕ
front_text m =
    four_digits m.year ++ 45
    ∷ (day_text (Some 45) (m.month, m.day) ++ 84 ∷ clock_text (Some 58) (m.hour, m.minute, m.second))

-- how far a clock is from that of Greenwich: not at all, or hours and minutes ahead of it or behind it
pub data Zone : Type 0 where
  zulu : Zone
  ahead : ℕ → ℕ → Zone
  behind : ℕ → ℕ → Zone

abbrev pub offset_text : ℕ → ℕ → List ℕ
offset_text hours minutes = two_digits hours ++ 58 ∷ two_digits minutes

abbrev pub zone_text : Zone → List ℕ
zone_text zulu = 90 ∷ []
zone_text (ahead hours minutes) = 43 ∷ offset_text hours minutes
zone_text (behind hours minutes) = 45 ∷ offset_text hours minutes

abbrev pub IsZone : Zone → Type 0
IsZone zulu = Unit {0}
IsZone (ahead hours minutes) = (hours < 24) × (minutes < 60)
IsZone (behind hours minutes) = (hours < 24) × (minutes < 60)

-- the offset in seconds
abbrev pub offset_of : Zone → ℤ
offset_of zulu = pos 0
offset_of (ahead hours minutes) = pos (hours * 3600 + minutes * 60)
offset_of (behind hours minutes) = neg_ℤ (pos (hours * 3600 + minutes * 60))

-- nothing, or a point and one to nine digits
pub data IsFraction : List ℕ → Type 0 where
  whole : IsFraction []
  part : (digits : List ℕ) → AllByRecursion (λ b. is_digit b ≡ true) digits → 1 ≤ length digits → length digits ≤ 9
      → IsFraction (46 ∷ digits)

-- the text names an instant of this second since 1970
pub record IsInstantOf (text : List ℕ) (second : ℤ) : Type 0 where
  pub moment : Moment
  pub fraction : List ℕ
  pub zone : Zone
  pub real : IsReal moment
  pub year : 1 ≤ moment.year
  pub fractional : IsFraction fraction
  pub zoned : IsZone zone
  pub spelled : text ≡ front_text moment ++ (fraction ++ zone_text zone)
  pub value : second ≡ (second_of moment -ℤ offset_of zone)

-- ---- readers

unfoldable pub front_at : List ℕ → Option (Moment × List ℕ)
front_at text = do
  year ← four_at text
  after_year ← skip (Some 45) year.1
  day ← day_at (Some 45) after_year
  after_day ← skip (Some 84) day.1
  clock ← clock_at (Some 58) after_day
  Some (moment_of year.0 day.0 clock.0, clock.1)

-- what follows a digit at the front, or the text where there is none
abbrev pub after_digit : List ℕ → List ℕ
after_digit [] = []
after_digit (b ∷ text) = if is_digit b then text else b ∷ text

-- what follows the digits at the front, of which at most this number are skipped
unfoldable pub after_digits : ℕ → List ℕ → List ℕ
after_digits zero text = text
after_digits (suc most) text = after_digits most (after_digit text)

abbrev pub starts_with_digit : List ℕ → Bool
starts_with_digit [] = false
starts_with_digit (b ∷ text) = is_digit b

-- what follows the fraction
unfoldable pub fraction_at : List ℕ → Option (List ℕ)
fraction_at [] = Some []
fraction_at (b ∷ text) =
    if b == 46 then (if starts_with_digit text then Some (after_digits 9 text) else None) else Some (b ∷ text)

unfoldable pub offset_at : List ℕ → Option ℕ
offset_at text = do
  hours ← two_at text
  after_hours ← skip (Some 58) hours.1
  minutes ← two_at after_hours
  if nat_lt hours.0 24 && nat_lt minutes.0 60 && (length minutes.1 == 0) then Some (hours.0 * 3600 + minutes.0 * 60)
      else None

unfoldable pub zone_at : List ℕ → Option ℤ
zone_at [] = None
zone_at (b ∷ text) =
    if b == 90 then (if length text == 0 then Some (pos 0) else None)
    else if b == 43 then (offset_at text >>= λ n. Some (pos n))
    else if b == 45 then (offset_at text >>= λ n. Some (neg_ℤ (pos n)))
    else None

unfoldable pub stamp_at : List ℕ → Option (Moment × ℤ)
stamp_at text = do
  front ← front_at text
  after_fraction ← fraction_at front.1
  offset ← zone_at after_fraction
  if front.0.year == 0 then None else Some (front.0, offset)
