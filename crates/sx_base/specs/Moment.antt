-- The text of a moment: its civil time in the Gregorian calendar, to a tick of 100 ns.
use Rattle.std.specs.Prelude.{codes, ◌≡◌, ℕ, ◌+◌, ◌-◌, ◌*◌, ◌/◌, ◌%◌, ◌≤◌, List, ◌++◌, nat_lt, if◌then◌else◌, pos}
use Rattle.std.specs.Prelude.{unsigned_abs}
use Rattle.jiff.specs.Types.{DateTime}
use Rattle.jiff.specs.Words.{civil_nanos}
use Rattle.httpdate.specs.Calendar.{seconds_from_civil}
use Rattle.sx_text.specs.Digits.{digits_text}

-- the ticks of a second
abbrev pub ticks_of_second : ℕ
ticks_of_second = 10000000

-- the greatest moment that has a text, 9892-03-08T12:33:49.4967295Z: the greatest of a clock and 2 ^ 32 - 1 ticks
abbrev pub greatest_written : ℕ
greatest_written = 2500000004294967295

-- a moment that has a text
abbrev pub IsWritten : ℕ → Type 0
IsWritten at = at ≤ greatest_written

-- year, month and day
abbrev pub Day : Type 0
Day = ℕ × (ℕ × ℕ)

-- hour, minute and second
abbrev pub TimeOfDay : Type 0
TimeOfDay = ℕ × (ℕ × ℕ)

-- a day, a time of the day, and the ticks of its second
abbrev pub Fields : Type 0
Fields = Day × (TimeOfDay × ℕ)

-- YYYY-MM-DD
abbrev pub day_text : Day → List ℕ
day_text d = digits_text 4 d.0 ++ ((codes "-" ++ digits_text 2 d.1.0) ++ (codes "-" ++ digits_text 2 d.1.1))

-- hh:mm:ss behind some literal
abbrev pub time_text : List ℕ → TimeOfDay → List ℕ
time_text literal t = (literal ++ digits_text 2 t.0)
    ++ ((codes ":" ++ digits_text 2 t.1.0) ++ (codes ":" ++ digits_text 2 t.1.1))

-- YYYY-MM-DDThh:mm:ss.fffffffZ
unfoldable pub fields_text : Fields → List ℕ
fields_text m = day_text m.0 ++ (time_text (codes "T") m.1.0 ++ ((codes "." ++ digits_text 7 m.1.1) ++ codes "Z"))

-- how many days lie between 1970-01-01 and a moment
abbrev pub days_before : ℕ → ℕ
days_before at = at / ticks_of_second / 86400

-- year, month and day of a day counted from 1970-01-01. Here days are counted from 1 March of the year 0, in quarters,
-- so that a leap day is the last of its year
unfoldable pub civil_day : ℕ → Day
civil_day days =
    let quarters = 4 * (days + 719468) + 3 in
    let of_century = quarters % 146097 / 4 * 4 + 3 in
    let year = 100 * (quarters / 146097) + of_century / 1461 in
    let of_year = of_century % 1461 / 4 in
    let month = (5 * of_year + 461) / 153 in
    let day = (5 * of_year + 461) % 153 / 5 + 1 in
    if nat_lt 12 month then (year + 1, (month - 12, day)) else (year, (month, day))

-- hour, minute and second of a moment
abbrev pub time_of_day : ℕ → TimeOfDay
time_of_day at =
    let seconds = at / ticks_of_second in
    (seconds / 3600 % 24, (seconds / 60 % 60, seconds % 60))

-- the fields of a moment
abbrev pub fields_at_moment : ℕ → Fields
fields_at_moment at = (civil_day (days_before at), (time_of_day at, at % ticks_of_second))

-- the moment with these fields
abbrev pub moment_of : Fields → ℕ
moment_of m = seconds_from_civil m.0.0 m.0.1.0 m.0.1.1 m.1.0.0 m.1.0.1.0 m.1.0.1.1 * ticks_of_second + m.1.1

-- the text of a moment: YYYY-MM-DDThh:mm:ss.fffffffZ
unfoldable pub moment_text : ℕ → List ℕ
moment_text at = fields_text (fields_at_moment at)

-- the fields of a civil time of jiff
abbrev pub fields_of : DateTime → Fields
fields_of dt = (
  (unsigned_abs dt.date.year, (dt.date.month, dt.date.day)),
  ((dt.time.hour, (dt.time.minute, dt.time.second)), dt.time.subsec_nanosecond / 100),
)

-- the text of a civil time
abbrev pub civil_text : DateTime → List ℕ
civil_text dt = fields_text (fields_of dt)

-- the civil time of the moment, in UTC
abbrev pub IsCivilTime : DateTime → ℕ → Type 0
IsCivilTime dt at = civil_nanos dt ≡ pos (100 * at)

-- the civil time of a moment that has a text
abbrev pub IsMoment : DateTime → Type 0
IsMoment dt = (at : ℕ) × (at ≤ greatest_written) × IsCivilTime dt at

-- the text of the moment
abbrev pub IsMomentText : List ℕ → ℕ → Type 0
IsMomentText text at = (dt : DateTime) × IsCivilTime dt at × (text ≡ civil_text dt)
