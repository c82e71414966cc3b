-- A second since 1970 as a text of RFC 3339 section 5.6, in UTC: YYYY-MM-DDTHH:MM:SSZ. Days are counted from 1 January
-- of the year -10000, as `day_count` does.
use Rattle.std.specs.Prelude.{ℕ, zero, suc, ◌+◌, ◌-◌, ◌/◌, ◌%◌, List, [], ◌∷◌, ◌++◌, ◌&&◌, nat_le, int_le, Option, Some}
use Rattle.std.specs.Prelude.{None, ℤ, pos, neg_ℤ, ◌-ℤ◌, unsigned_abs, if◌then◌else◌}
use Rattle.jiff_core.specs.Calendar.{day_count}
use Rattle.sig_der.specs.DerTime.{moment_of}
use Rattle.sig_der.specs.Stamp.{front_text}

-- 0001-01-01T00:00:00Z and 9999-12-31T23:59:59Z
abbrev pub first_second : ℤ
first_second = neg_ℤ (pos 62_135_596_800)

abbrev pub last_second : ℤ
last_second = pos 253_402_300_799

-- of years or months that are numbered from 1 to a last one, the one that a day is in: the last whose first day is not
-- after it
unfoldable pub last_begun : (ℕ → ℕ) → ℕ → ℕ → ℕ
last_begun first zero day = 0
last_begun first (suc n) day = if nat_le (first (suc n)) day then suc n else last_begun first n day

unfoldable pub year_at : ℕ → ℕ
year_at day = last_begun (λ year. day_count (pos year) 1 1) 9999 day

unfoldable pub month_at : ℕ → ℕ → ℕ
month_at year day = last_begun (λ month. day_count (pos year) month 1) 12 day

unfoldable pub day_at : ℕ → ℕ → ℕ → ℕ
day_at year month day = day - day_count (pos year) month 1 + 1

-- year, month and day
unfoldable pub date_at : ℕ → ℕ × ℕ × ℕ
date_at day = (year_at day, month_at (year_at day) day, day_at (year_at day) (month_at (year_at day) day) day)

-- hour, minute and second of a time of day in seconds
unfoldable pub clock_at : ℕ → ℕ × ℕ × ℕ
clock_at clock = (clock / 3600, clock % 3600 / 60, clock % 60)

unfoldable pub text_at : ℕ × ℕ × ℕ → ℕ × ℕ × ℕ → List ℕ
text_at date clock = front_text (moment_of date.0 (date.1, date.2) clock) ++ 90 ∷ []

-- the text of this number of seconds after the first
unfoldable pub text_after : ℕ → List ℕ
text_after since = text_at (date_at (day_count (pos 1) 1 1 + since / 86400)) (clock_at (since % 86400))

-- the text of a second of the years 1 to 9999
unfoldable pub second_text : ℤ → List ℕ
second_text second = text_after (unsigned_abs (second -ℤ first_second))

-- the text of a second; `None` if the year is not one of 1 to 9999
unfoldable pub utc_text : ℤ → Option (List ℕ)
utc_text second = if int_le first_second second && int_le second last_second then Some (second_text second) else None
