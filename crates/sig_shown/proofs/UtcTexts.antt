-- A second as a text: the date of a day is the one whose count is the day's, and the text names the second's instant.
use Rattle.std.proofs.Common.{◌≡◌, ℕ, zero, suc, ◌+◌, ◌/◌, ◌%◌, ◌<◌, ◌≤◌, [], ◌∷◌, ◌++◌, false, None, Some}
use Rattle.std.proofs.Common.{inl, inr, refl, sym, subst, ◌∙◌, arith, ap, ℤ, pos, negsuc, ◌+ℤ◌, ◌-ℤ◌, ◌*ℤ◌, ◌<ℤ◌, ◌≤ℤ◌, unsigned_abs}
use Rattle.std.proofs.lemmas.Bool.{cases_eq, le-leb, lt-leb}
use Rattle.std.proofs.lemmas.Int.{by_lt_z, ints}
use Rattle.jiff_core.specs.Calendar.{day_count, days_from_civil, IsCivilDate}
use Rattle.jiff_core.specs.Time.{time_seconds}
use Rattle.jiff_core.specs.declared.civil.date.Date.{Date}
use Rattle.jiff_core.specs.declared.civil.datetime.DateTime.{DateTime}
use Rattle.jiff_core.specs.declared.civil.time.Time.{Time}
use Rattle.jiff_core.specs.Date.{epoch_day}
use Rattle.jiff_core.proofs.CalendarLemmas.{day_count-day, day_count-day_of_year, day_count-lt_month, day_count-lt_year, days_from_civil-day_count}
use Rattle.jiff_core.proofs.DateLemmas.{civil}
use Rattle.jiff_core.proofs.MarchLemmas.{day_count-early}
use Rattle.jiff_core.proofs.SignedLemmas.{signed_arith}
use Rattle.jiff_fmt.specs.Text.{datetime_text}
use Rattle.sig_der.specs.DerTime.{moment_of}
use Rattle.sig_der.specs.Stamp.{IsInstantOf, whole, zulu}
use Rattle.sig_shown.specs.UtcText.{clock_at, date_at, day_at, first_second, last_begun, last_second, month_at}
use Rattle.sig_shown.specs.UtcText.{second_text, text_after, text_at, utc_text, year_at}

-- what has begun, and after which nothing has
last_begun_is : (first : ℕ → ℕ) (most n day : ℕ) → 1 ≤ n → n ≤ most → first n ≤ day
    → ((k : ℕ) → n < k → k ≤ most → day < first k) → last_begun first most day ≡ n
unfolding last_begun
last_begun_is first zero n day low high begun later = absurd (omega arith)
last_begun_is first (suc m) n day low high begun later =
    elim (cases_eq n (suc m)) [
      | inl e ↦ rw (le-leb (first (suc m)) day (subst (λ k. first k ≤ day) e begun)) (sym e)
      | inr other ↦ rw (lt-leb (first (suc m)) day (later (suc m) (omega arith) (omega arith)))
          (last_begun_is first m n day low (omega arith) begun (λ k above below. later k above (omega arith)))
    ]

year_is : (y m d : ℕ) → IsCivilDate (pos y) m d → 1 ≤ y → year_at (day_count (pos y) m d) ≡ y
unfolding year_at
year_is y m d civil low =
    last_begun_is (λ year. day_count (pos year) 1 1) 9999 y (day_count (pos y) m d) low (omega (arith, signed_arith))
    (omega (arith, day_count-day_of_year (pos y) m d civil.2.0))
    (λ k above below. day_count-lt_year (pos y) m d (pos k) 1 1 civil (omega arith) (omega (arith, signed_arith)))

month_is : (y m d : ℕ) → IsCivilDate (pos y) m d → month_at y (day_count (pos y) m d) ≡ m
unfolding month_at
month_is y m d civil =
    last_begun_is (λ month. day_count (pos y) month 1) 12 m (day_count (pos y) m d) (omega arith) (omega arith)
    (omega (arith, day_count-day (pos y) m d 1 civil.2.0 (omega arith)))
    (λ k above below. day_count-lt_month (pos y) m d k 1 civil (omega arith) above)

day_is : (y m d : ℕ) → IsCivilDate (pos y) m d → day_at y m (day_count (pos y) m d) ≡ d
unfolding day_at
day_is y m d civil = omega (arith, day_count-day (pos y) m d 1 civil.2.0 (omega arith))

date_is : (y m d : ℕ) → IsCivilDate (pos y) m d → 1 ≤ y → date_at (day_count (pos y) m d) ≡ (y, m, d)
unfolding date_at
date_is y m d civil low = rw (year_is y m d civil low, month_is y m d civil, day_is y m d civil) refl

positive : (z : ℤ) → pos 1 ≤ℤ z → (n : ℕ) × ((z ≡ pos n) × (1 ≤ n))
positive (pos n) h = (n, (refl, omega (arith, signed_arith)))
positive (negsuc n) h = absurd (omega (arith, signed_arith))

-- 1 January of the year 1
first_day : day_count (pos 1) 1 1 ≡ 3_652_791
first_day = day_count-early (pos 1) 10000 1 1 refl (omega arith) (omega arith) (omega arith)

-- ---- what the code makes

-- a date so many days after the first
pub counted : (date : Date) (day : ℕ) → epoch_day date +ℤ pos 4_371_587 ≡ pos (3_652_425 + day)
    → day_count date.year date.month date.day ≡ day_count (pos 1) 1 1 + day
counted date day e =
    rw first_day (omega (arith, signed_arith, days_from_civil-day_count date.year date.month date.day))

-- a date from 1 January of the year 1 on
record IsOfYear (date : Date) (y : ℕ) : Type 0 where
  year : date.year ≡ pos y
  low : 1 ≤ y
  civil : IsCivilDate (pos y) date.month date.day

of_year : (date : Date) (day : ℕ) → day_count date.year date.month date.day ≡ day_count (pos 1) 1 1 + day
    → (y : ℕ) × IsOfYear date y
of_year date day count =
    let low : pos 1 ≤ℤ date.year =
    by_lt_z date.year (pos 1)
    (λ lt. absurd (omega (arith, day_count-lt_year date.year date.month date.day (pos 1) 1 1 (civil date) (omega arith) lt)))
    (λ le. le) in
    let found = positive date.year low in (
      found.0,
      record {
        year = found.1.0;
        low = found.1.1;
        civil = subst (λ z. IsCivilDate z date.month date.day) found.1.0 (civil date);
      },
    )

clock_is : (t : Time) (clock : ℕ) → time_seconds t ≡ clock → clock_at clock ≡ (t.hour, t.minute, t.second)
unfolding clock_at
clock_is t clock e =
    let hour : clock / 3600 ≡ t.hour = omega arith in
    let minute : clock % 3600 / 60 ≡ t.minute = omega arith in
    let second : clock % 60 ≡ t.second = omega arith in
    rw (hour, minute, second) refl

date_of_year : (date : Date) (y day : ℕ) → IsOfYear date y
    → day_count date.year date.month date.day ≡ day_count (pos 1) 1 1 + day
    → date_at (day_count (pos 1) 1 1 + day) ≡ (y, date.month, date.day)
date_of_year date y day found count =
    ap date_at (sym count ∙ ap (λ z. day_count z date.month date.day) found.year)
    ∙ date_is y date.month date.day found.civil found.low

-- the text so many seconds after the first is that of such a moment
text_of_moment : (dt : DateTime) (y since : ℕ) → IsOfYear dt.date y
    → day_count dt.date.year dt.date.month dt.date.day ≡ day_count (pos 1) 1 1 + since / 86400
    → time_seconds dt.time ≡ since % 86400
    → text_after since ≡ text_at (y, dt.date.month, dt.date.day) (dt.time.hour, dt.time.minute, dt.time.second)
unfolding text_after
text_of_moment dt y since found day clock =
    ap (λ date. text_at date (clock_at (since % 86400))) (date_of_year dt.date y (since / 86400) found day)
    ∙ ap (text_at (y, dt.date.month, dt.date.day)) (clock_is dt.time (since % 86400) clock)

printed_text : (dt : DateTime) (y : ℕ) → dt.date.year ≡ pos y → dt.time.subsec_nanosecond ≡ 0
    → datetime_text false 84 None dt ++ 90 ∷ []
    ≡ text_at (y, dt.date.month, dt.date.day) (dt.time.hour, dt.time.minute, dt.time.second)
unfolding text_at
printed_text dt y year no_fraction = rw (year, no_fraction) refl

-- the printer's text of such a moment, with `Z` after it
pub printed : (dt : DateTime) (since : ℕ)
    → day_count dt.date.year dt.date.month dt.date.day ≡ day_count (pos 1) 1 1 + since / 86400
    → time_seconds dt.time ≡ since % 86400 → dt.time.subsec_nanosecond ≡ 0
    → datetime_text false 84 None dt ++ 90 ∷ [] ≡ text_after since
printed dt since day clock no_fraction =
    let found = of_year dt.date (since / 86400) day in
    printed_text dt found.0 found.1.year no_fraction ∙ sym (text_of_moment dt found.0 since found.1 day clock)

named : (dt : DateTime) (y : ℕ) (second : ℤ) → IsOfYear dt.date y
    → second ≡ days_from_civil (pos y) dt.date.month dt.date.day *ℤ pos 86400 +ℤ pos (time_seconds dt.time)
    → IsInstantOf (text_at (y, dt.date.month, dt.date.day) (dt.time.hour, dt.time.minute, dt.time.second)) second
unfolding text_at
named dt y second found e = record {
  moment = moment_of y (dt.date.month, dt.date.day) (dt.time.hour, dt.time.minute, dt.time.second);
  fraction = [];
  zone = zulu;
  real = record {
    date = (found.civil.0, (omega (arith, signed_arith, found.civil), omega (arith, signed_arith, found.civil)), (omega (arith, signed_arith, found.civil), omega (arith, signed_arith, found.civil)));
    hour = dt.time.hour_in;
    minute = dt.time.minute_in;
    second = dt.time.second_in;
  };
  year = found.low;
  fractional = whole;
  zoned = tt;
  spelled = refl;
  value = omega (arith, signed_arith);
}

second_is : (y m d : ℕ) (second : ℤ) (since clock : ℕ) → second ≡ first_second +ℤ pos since
    → day_count (pos y) m d ≡ day_count (pos 1) 1 1 + since / 86400 → clock ≡ since % 86400
    → second ≡ days_from_civil (pos y) m d *ℤ pos 86400 +ℤ pos clock
second_is y m d second since clock e day time =
    omega (arith, signed_arith, first_day, days_from_civil-day_count (pos y) m d)

-- the text names the second
pub instant : (dt : DateTime) (second : ℤ) (since : ℕ) → second ≡ first_second +ℤ pos since
    → day_count dt.date.year dt.date.month dt.date.day ≡ day_count (pos 1) 1 1 + since / 86400
    → time_seconds dt.time ≡ since % 86400 → IsInstantOf (text_after since) second
instant dt second since e day clock =
    let found = of_year dt.date (since / 86400) day in
    let count : day_count (pos found.0) dt.date.month dt.date.day ≡ day_count (pos 1) 1 1 + since / 86400 = rw (← found.1.year) day in
    rw (text_of_moment dt found.0 since found.1 day clock)
    (named dt found.0 second found.1
    (second_is found.0 dt.date.month dt.date.day second since (time_seconds dt.time) e count clock))

since_is : (second : ℤ) (since : ℕ) → second ≡ first_second +ℤ pos since → unsigned_abs (second -ℤ first_second) ≡ since
since_is second since e =
    let left : second -ℤ first_second ≡ pos since = omega (arith, signed_arith) in ap unsigned_abs left

-- the text of a second is that so many seconds after the first
pub text_since : (second : ℤ) (since : ℕ) → second ≡ first_second +ℤ pos since → second_text second ≡ text_after since
unfolding second_text
text_since second since e = ap text_after (since_is second since e)

pub text_within : (second : ℤ) → first_second ≤ℤ second → second ≤ℤ last_second → utc_text second ≡ Some (second_text second)
unfolding utc_text
text_within second low high = grind (arith, ints)

pub text_before : (second : ℤ) → second <ℤ first_second → utc_text second ≡ None
unfolding utc_text
text_before second low = grind (arith, ints)

pub text_beyond : (second : ℤ) → last_second <ℤ second → utc_text second ≡ None
unfolding utc_text
text_beyond second high = grind (arith, ints)

pub ruleset utc_texts = (text_within, text_before, text_beyond)
