-- A second of the calendar by its six numbers, and its number of seconds since 1970.
use Rattle.std.specs.Prelude.{◌≡◌, ◌+◌, ◌*◌, ◌<◌, ℤ, pos, ◌+ℤ◌, ◌*ℤ◌}
use Rattle.jiff_core.specs.Calendar.{IsDate, days_from_civil}
use Rattle.sig_der.specs.declared.moment.Moment.{Moment}

-- The calendar has the day, and the day has the second; there are no leap seconds.
pub record IsReal (m : Moment) : Type 0 where
  pub date : IsDate (pos m.year) (pos m.month) (pos m.day)
  pub hour : m.hour < 24
  pub minute : m.minute < 60
  pub second : m.second < 60

abbrev pub second_of : Moment → ℤ
second_of m =
    (days_from_civil (pos m.year) m.month m.day *ℤ pos 86400) +ℤ pos (m.hour * 3600 + m.minute * 60 + m.second)

-- Four digits hold the year, and two each other number.
pub record IsDecimal (m : Moment) : Type 0 where
  pub year : m.year < 10000
  pub month : m.month < 100
  pub day : m.day < 100
  pub hour : m.hour < 100
  pub minute : m.minute < 100
  pub second : m.second < 100

-- the second since 1970 of a moment of this kind
pub record IsSecondOf (IsTime : Moment → Type 0) (second : ℤ) : Type 0 where
  pub moment : Moment
  pub time : IsTime moment
  pub value : second ≡ second_of moment
