-- Reading a header date (IMF-fixdate) at the front: a weekday, and a day that falls on it.
use Rattle.std.specs.Prelude.{codes, ℕ, ◌%◌, Bool, true, ◌&&◌, ◌==◌, nat_le, pos}
use Rattle.jiff.specs.Words.{days_in_month}
use Rattle.httpdate.specs.Calendar.{days_from_civil}
use Rattle.sx_text.specs.Texts.{Reader}
use Rattle.sx_text.specs.Readers.{pair_at, closed_at, made_at}
use Rattle.sx_text.specs.Numbers.{IsFrom}
use Rattle.sx_text.specs.Digits.{digits_text, digits_after}
use Rattle.sx_text.specs.Named.{IsNamed, named_at, named_after}
use Rattle.sx_base.specs.Moment.{Day, TimeOfDay, moment_of}
use Rattle.sx_base.specs.MomentReader.{month_most, day_most, time_at, IsTimeOfDay}
use Rattle.sx_base.specs.Date.{weekday_name, month_name}

-- weekday, day, month and year, as they stand in a date
abbrev pub Dated : Type 0
Dated = ℕ × (ℕ × (ℕ × ℕ))

-- the day that is shown
abbrev pub day_shown : Dated → Day
day_shown x = (x.1.1.1, (x.1.1.0, x.1.0))

-- the moment that is shown
abbrev pub moment_shown : Dated × TimeOfDay → ℕ
moment_shown x = moment_of (day_shown x.0, (x.1, 0))

-- each weekday
abbrev pub any_weekday : ℕ → Bool
any_weekday weekday = true

-- whether the month has the day in a leap year
abbrev pub has_day : ℕ → ℕ → Bool
has_day day month = nat_le day (days_in_month (pos 1972) month)

-- whether the year has the day, no later than that of the greatest moment, and on this weekday
abbrev pub falls_on : ℕ → ℕ → ℕ → ℕ → Bool
falls_on weekday day month year = (nat_le month (month_most year) && nat_le day (day_most year month))
    && (days_from_civil year month day % 7 == weekday)

-- a day within the limits, and its weekday
abbrev pub IsDatedDay : Dated → Type 0
IsDatedDay x = IsNamed any_weekday 7 0 x.0 × (IsFrom 1 31 x.1.0
    × (IsNamed (has_day x.1.0) 12 1 x.1.1.0 × IsNamed (falls_on x.0 x.1.0 x.1.1.0) 7923 1970 x.1.1.1))

-- such a day, and a time of the day within the limits
abbrev pub IsDatedTime : Dated × TimeOfDay → Type 0
IsDatedTime x = IsDatedDay x.0 × IsTimeOfDay (day_shown x.0) x.1

-- day, month and year behind the weekday
unfoldable pub day_after : ℕ → Reader ℕ (ℕ × (ℕ × ℕ))
day_after weekday bytes = pair_at (digits_after (codes ", ") 1 1 31)
    (λ day. pair_at (named_after (codes " ") month_name (has_day day) 12 1)
    (λ month. named_after (codes " ") (digits_text 4) (falls_on weekday day month) 7923 1970)) bytes

-- the weekday, and the day behind it
unfoldable pub dated_at : Reader ℕ Dated
dated_at bytes = pair_at (named_at weekday_name any_weekday 7 0) (λ weekday. day_after weekday) bytes

-- the time of the day behind the day, up to its end
unfoldable pub clock_after : Dated → Reader ℕ TimeOfDay
clock_after x bytes = closed_at (time_at (codes " ") (day_shown x)) (codes " GMT") bytes

-- the moment whose header date stands at the front
unfoldable pub date_at : Reader ℕ ℕ
date_at bytes = made_at moment_shown (pair_at dated_at (λ x. clock_after x)) bytes
