-- Time texts (RFC 3339 section 5.6) as seconds; `laws::time_texts` says that this is what `IsInstantOf` relates.
use Rattle.std.specs.Prelude.{ℕ, ◌+◌, List, Bool, ◌&&◌, nat_lt, Option, Some, None, ℤ, pos, ◌-ℤ◌, if◌then◌else◌}
use Rattle.jiff_core.specs.Calendar.{days_in_month}
use Rattle.sig_base.specs.OptionSteps.{◌>>=◌}
use Rattle.sig_der.specs.Moment.{second_of}
use Rattle.sig_der.specs.Stamp.{stamp_at}

-- from low to high, both included
abbrev pub is_from : ℕ → ℕ → ℕ → Bool
is_from low high n = nat_lt n (high + 1) && nat_lt low (n + 1)

-- the calendar has the day
unfoldable pub is_day : ℕ → ℕ → ℕ → Bool
is_day year month day = nat_lt year 10000 && is_from 1 12 month && is_from 1 (days_in_month (pos year) month) day

-- the day has the second
unfoldable pub is_clock : ℕ → ℕ → ℕ → Bool
is_clock hour minute second = nat_lt hour 24 && nat_lt minute 60 && nat_lt second 60

-- the second since 1970 in which the instant of a text lies; `None` if it is not a time text
unfoldable pub second_in : List ℕ → Option ℤ
second_in text = stamp_at text >>= λ stamp.
    if is_day stamp.0.year stamp.0.month stamp.0.day && is_clock stamp.0.hour stamp.0.minute stamp.0.second
    then Some (second_of stamp.0 -ℤ stamp.1) else None
