-- The fields of the texts of moments, each with its greatest value where the fields in front of it are given, and
-- reading them.
use Rattle.std.specs.Prelude.{codes, ◌≡◌, ℕ, ◌*◌, ◌≤◌, Bool, ◌&&◌, List, [], pos, ◌==◌, if◌then◌else◌, Result}
use Rattle.std.specs.Prelude.{Ok, Err}
use Rattle.jiff.specs.Types.{DateTime}
use Rattle.jiff.specs.Words.{days_in_month}
use Rattle.sx_text.specs.Texts.{Reader, IsNoText}
use Rattle.sx_text.specs.Readers.{pair_at, closed_at, made_at}
use Rattle.sx_text.specs.Numbers.{IsFrom}
use Rattle.sx_text.specs.Digits.{digits_after}
use Rattle.sx_base.specs.Moment.{Day, TimeOfDay, Fields, IsWritten, moment_of, moment_text}
use Rattle.sx_base.specs.declared.moment_reader.BadMoment.{BadMoment}

-- the day of the greatest moment
abbrev pub is_last_day : Day → Bool
is_last_day d = d.0 == 9892 && (d.1.0 == 3 && d.1.1 == 8)

-- the greatest month of a year
unfoldable pub month_most : ℕ → ℕ
month_most year = if year == 9892 then 3 else 12

-- the greatest day of a month
unfoldable pub day_most : ℕ → ℕ → ℕ
day_most year month = if year == 9892 && month == 3 then 8 else days_in_month (pos year) month

-- the greatest hour of a day
unfoldable pub hour_most : Day → ℕ
hour_most d = if is_last_day d then 12 else 23

-- the greatest minute of an hour
unfoldable pub minute_most : Day → ℕ → ℕ
minute_most d hour = if is_last_day d && hour == 12 then 33 else 59

-- the greatest second of a minute
unfoldable pub second_most : Day → ℕ → ℕ → ℕ
second_most d hour minute = if is_last_day d && (hour == 12 && minute == 33) then 49 else 59

-- the most ticks of a second
unfoldable pub ticks_most : Day → TimeOfDay → ℕ
ticks_most d t = if is_last_day d && (t.0 == 12 && (t.1.0 == 33 && t.1.1 == 49)) then 4967295 else 9999999

-- a day within the limits
abbrev pub IsDay : Day → Type 0
IsDay d = IsFrom 1970 9892 d.0 × (IsFrom 1 (month_most d.0) d.1.0 × IsFrom 1 (day_most d.0 d.1.0) d.1.1)

-- a time of the day within the limits
abbrev pub IsTimeOfDay : Day → TimeOfDay → Type 0
IsTimeOfDay d t = IsFrom 0 (hour_most d) t.0
    × (IsFrom 0 (minute_most d t.0) t.1.0 × IsFrom 0 (second_most d t.0 t.1.0) t.1.1)

-- the fields of a moment that has a text
abbrev pub IsFields : Fields → Type 0
IsFields m = IsDay m.0 × (IsTimeOfDay m.0 m.1.0 × IsFrom 0 (ticks_most m.0 m.1.0) m.1.1)

-- the day at the front
unfoldable pub day_at : Reader ℕ Day
day_at bytes = pair_at (digits_after [] 3 1970 9892)
    (λ year. pair_at (digits_after (codes "-") 1 1 (month_most year))
    (λ month. digits_after (codes "-") 1 1 (day_most year month))) bytes

-- a literal, and the time of the day behind it
unfoldable pub time_at : List ℕ → Day → Reader ℕ TimeOfDay
time_at literal d bytes = pair_at (digits_after literal 1 0 (hour_most d))
    (λ hour. pair_at (digits_after (codes ":") 1 0 (minute_most d hour))
    (λ minute. digits_after (codes ":") 1 0 (second_most d hour minute))) bytes

-- the ticks at the front, and the Z behind them
unfoldable pub ticks_at : Day → TimeOfDay → Reader ℕ ℕ
ticks_at d t bytes = closed_at (digits_after (codes ".") 6 0 (ticks_most d t)) (codes "Z") bytes

-- all fields at the front
unfoldable pub fields_at : Reader ℕ Fields
fields_at bytes = pair_at day_at (λ d. pair_at (time_at (codes "T") d) (λ t. ticks_at d t)) bytes

-- the moment whose text stands at the front
unfoldable pub moment_at : Reader ℕ ℕ
moment_at bytes = made_at moment_of fields_at bytes

-- the fields of some civil time, from 1970 to 9892
pub record IsCivil (y mo d h mi s f : ℕ) : Type 0 where
  pub year : IsFrom 1970 9892 y
  pub month : IsFrom 1 12 mo
  pub day : IsFrom 1 (days_in_month (pos y) mo) d
  pub hour : h ≤ 23
  pub minute : mi ≤ 59
  pub second : s ≤ 59
  pub ticks : f ≤ 9999999

-- the civil time has these fields, and no part of a tick
abbrev pub Shows : DateTime → ℕ → ℕ → ℕ → ℕ → ℕ → ℕ → ℕ → Type 0
Shows dt year month day hour minute second ticks =
    (dt.date.year ≡ pos year) × (dt.date.month ≡ month) × (dt.date.day ≡ day) × (dt.time.hour ≡ hour)
    × (dt.time.minute ≡ minute) × (dt.time.second ≡ second) × (dt.time.subsec_nanosecond ≡ 100 * ticks)

-- the moment whose text it is, or the length of the longest prefix that begins the text of a moment, where it is none
abbrev pub ReadsMoment : List ℕ → Result ℕ BadMoment → Type 0
ReadsMoment text (Ok at) = IsWritten at × (text ≡ moment_text at)
ReadsMoment text (Err bad) = IsNoText moment_text IsWritten text bad.at
