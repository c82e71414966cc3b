-- What is read of a time text is what the relation says of it.
use Rattle.std.proofs.Common.{◌≡◌, ℕ, ◌+◌, ◌<◌, ◌≤◌, ℤ, pos, ◌-ℤ◌, List, Bool, true, false, cond, ◌&&◌, Option, Some}
use Rattle.std.proofs.Common.{None, refl, sym, subst, ◌∙◌, arith}
use Rattle.std.specs.Prelude.{IfSome, nat_lt}
use Rattle.std.proofs.lemmas.Bool.{lt-ltb, ltb-true, and_parts, and_from}
use Rattle.std.proofs.lemmas.Int.{ints}
use Rattle.jiff_core.specs.Calendar.{IsDate, days_in_month}
use Rattle.sig_base.proofs.OptionSteps.{bind_is, bind_of_some}
use Rattle.sig_der.specs.Moment.{second_of}
use Rattle.sig_der.specs.Stamp.{IsInstantOf, stamp_at}
use Rattle.sig_der.proofs.StampTexts.{IsSecondBefore, instant_found, instant_only, instant_none}
use Rattle.sig_der.proofs.TimeTexts.{year_below}
use Rattle.sig_der.specs.StampSecond.{is_clock, is_day, is_from, second_in}

from_is : (low high n : ℕ) → is_from low high n ≡ true → (low ≤ n) × (n ≤ high)
from_is low high n e =
    let both = and_parts (nat_lt n (high + 1)) (nat_lt low (n + 1)) e in
    let below = ltb-true n (high + 1) both.0 in
    let above = ltb-true low (n + 1) both.1 in
    (omega (arith, above), omega (arith, below))

is_from_when : (low high n : ℕ) → low ≤ n → n ≤ high → is_from low high n ≡ true
is_from_when low high n above below =
    and_from (nat_lt n (high + 1)) (nat_lt low (n + 1)) (lt-ltb n (high + 1) (omega arith))
    (lt-ltb low (n + 1) (omega arith))

-- the calendar has the day
abbrev Dated : ℕ → ℕ → ℕ → Type 0
Dated year month day = IsDate (pos year) (pos month) (pos day)

is_day_so : (year month day : ℕ) → is_day year month day ≡ true → Dated year month day
unfolding is_day
is_day_so year month day e =
    let most = days_in_month (pos year) month in
    let dated = and_parts (nat_lt year 10000 && is_from 1 12 month) (is_from 1 most day) e in
    let date = and_parts (nat_lt year 10000) (is_from 1 12 month) dated.0 in
    let below = ltb-true year 10000 date.0 in
    let month_is = from_is 1 12 month date.1 in
    let day_is = from_is 1 most day dated.1 in (
      (omega (arith, ints), omega (arith, ints, below)),
      (
        omega (arith, ints, month_is),
        omega
            (arith, ints, month_is),
      ),
      (omega (arith, ints, day_is), omega (arith, ints, day_is)),
    )

is_day_when : (year month day : ℕ) → year < 10000 → Dated year month day → is_day year month day ≡ true
unfolding is_day
is_day_when year month day below date =
    let most = days_in_month (pos year) month in
    and_from (nat_lt year 10000 && is_from 1 12 month) (is_from 1 most day)
    (and_from (nat_lt year 10000) (is_from 1 12 month) (lt-ltb year 10000 below)
    (is_from_when 1 12 month (omega (arith, ints, date.1.0)) (omega (arith, ints, date.1.1))))
    (is_from_when 1 most day (omega (arith, ints, date.2.0)) (omega (arith, ints, date.2.1)))

is_clock_so : (hour minute second : ℕ) → is_clock hour minute second ≡ true → (hour < 24) × (minute < 60)
    × (second < 60)
unfolding is_clock
is_clock_so hour minute second e =
    let minutes = and_parts (nat_lt hour 24 && nat_lt minute 60) (nat_lt second 60) e in
    let hours = and_parts (nat_lt hour 24) (nat_lt minute 60) minutes.0 in
    (ltb-true hour 24 hours.0, ltb-true minute 60 hours.1, ltb-true second 60 minutes.1)

is_clock_when : (hour minute second : ℕ) → hour < 24 → minute < 60 → second < 60 → is_clock hour minute second ≡ true
unfolding is_clock
is_clock_when hour minute second h m s =
    and_from (nat_lt hour 24 && nat_lt minute 60) (nat_lt second 60)
    (and_from (nat_lt hour 24) (nat_lt minute 60) (lt-ltb hour 24 h) (lt-ltb minute 60 m)) (lt-ltb second 60 s)

-- the test of a moment, by its six numbers
abbrev real : ℕ → ℕ → ℕ → ℕ → ℕ → ℕ → Bool
real year month day hour minute second = is_day year month day && is_clock hour minute second

-- the second of a stamp is what the code returns
after_is : (text : List ℕ) (y : _) → stamp_at text ≡ Some y → (b : Bool)
    → real y.0.year y.0.month y.0.day y.0.hour y.0.minute y.0.second ≡ b
    → IsSecondBefore y (cond b (Some (second_of y.0 -ℤ y.1)) None)
after_is text y is_stamp true e =
    let both = and_parts (is_day y.0.year y.0.month y.0.day) (is_clock y.0.hour y.0.minute y.0.second) e in
    let clock = is_clock_so y.0.hour y.0.minute y.0.second both.1 in
    let date = is_day_so y.0.year y.0.month y.0.day both.0 in
    (((λ some. record { date = date; hour = clock.0; minute = clock.1; second = clock.2 }), (λ real. refl)), refl)
after_is text y is_stamp false e = (
  (
    (λ some. absurd cc),
    (λ is.
        let yes = and_from (is_day y.0.year y.0.month y.0.day) (is_clock y.0.hour y.0.minute y.0.second)
        (is_day_when y.0.year y.0.month y.0.day (year_below y.0 is) is.date)
        (is_clock_when y.0.hour y.0.minute y.0.second is.hour is.minute is.second) in
        absurd cc),
  ),
  tt,
)

second_after : (text : List ℕ) (y : _) → stamp_at text ≡ Some y
    → second_in text ≡ cond (real y.0.year y.0.month y.0.day y.0.hour y.0.minute y.0.second)
    (Some (second_of y.0 -ℤ y.1)) None
unfolding second_in
second_after text y e = bind_of_some (stamp_at text) _ y e

found_of : (text : List ℕ) (s : ℤ) (r : Option ℤ) → r ≡ Some s → IfSome r (IsInstantOf text) → IsInstantOf text s
found_of text s r e found = let P : Option ℤ → Type 0 = λ o. IfSome o (IsInstantOf text) in subst P e found

pub second_found : (text : List ℕ) (s : ℤ) → second_in text ≡ Some s → IsInstantOf text s
unfolding second_in
second_found text s e =
    let step = bind_is (stamp_at text) _ s e in
    let y = step.0 in
    found_of text s _ step.2 (instant_found text y step.1 _ (after_is text y step.1
    (real y.0.year y.0.month y.0.day y.0.hour y.0.minute y.0.second) refl))

pub second_only : (text : List ℕ) (s : ℤ) → IsInstantOf text s → second_in text ≡ Some s
second_only text s is = by (stamp_at text) refl
  where
    by : (found : Option _) → stamp_at text ≡ found → second_in text ≡ Some s
    by None e = absurd (instant_none text e s is)
    by (Some y) e = second_after text y e
        ∙ instant_only text y e _ (after_is text y e (real y.0.year y.0.month y.0.day y.0.hour y.0.minute y.0.second)
        refl) s is

-- what the code returns
pub second_exact : (text : List ℕ) (r : Option ℤ) → IfSome r (IsInstantOf text)
    → ((s : ℤ) → IsInstantOf text s → r ≡ Some s) → r ≡ second_in text
second_exact text (Some s) found only = sym (second_only text s found)
second_exact text None found only = by (second_in text) refl
  where
    by : (r : Option ℤ) → second_in text ≡ r → None ≡ second_in text
    by None e = sym e
    by (Some s) e = absurd (let no = only s (second_found text s e) in cc)
