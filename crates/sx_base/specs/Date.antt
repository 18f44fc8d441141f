-- Header dates (RFC 9110, section 5.6.7), in plain arithmetic and by the definitions of httpdate.
use Rattle.std.specs.Prelude.{codes, ◌≡◌, ℕ, ◌-◌, ◌*◌, ◌/◌, ◌%◌, List, ◌++◌, take, drop, Option, Some, None}
use Rattle.httpdate.specs.Date as httpdate
use Rattle.httpdate.specs.declared.date.HttpDate.{HttpDate}
use Rattle.sx_text.specs.Digits.{digits_text}
use Rattle.sx_base.specs.Moment.{Day, ticks_of_second, IsWritten, days_before, civil_day, time_of_day, time_text}

-- a moment of whole seconds that has a text
abbrev pub IsDated : ℕ → Type 0
IsDated at = IsWritten at × (at % ticks_of_second ≡ 0)

-- the first letters of a weekday's name. They are counted from Thursday, which 1970-01-01 was
unfoldable pub weekday_name : ℕ → List ℕ
weekday_name weekday = take 3 (drop (3 * weekday) (codes "ThuFriSatSunMonTueWed"))

-- the first letters of a month's name
unfoldable pub month_name : ℕ → List ℕ
month_name month = take 3 (drop (3 * (month - 1)) (codes "JanFebMarAprMayJunJulAugSepOctNovDec"))

-- Sun, 06 Nov 1994
abbrev pub dated_text : ℕ → Day → List ℕ
dated_text weekday d = weekday_name weekday
    ++ ((codes ", " ++ digits_text 2 d.1.1) ++ ((codes " " ++ month_name d.1.0) ++ (codes " " ++ digits_text 4 d.0)))

-- the header date of the second in which a moment lies: Sun, 06 Nov 1994 08:49:37 GMT
unfoldable pub date_text : ℕ → List ℕ
date_text at = dated_text (days_before at % 7) (civil_day (days_before at))
    ++ (time_text (codes " ") (time_of_day at) ++ codes " GMT")

-- the text is the IMF-fixdate of the second in which the moment lies
abbrev pub IsDateOf : List ℕ → ℕ → Type 0
IsDateOf text at = (d : HttpDate) × (httpdate.unix_secs d ≡ at / 10000000) × (text ≡ httpdate.date_text d)

-- the moment at which the second begins that the text shows in one of the three formats, or none where it shows no date
abbrev pub ReadsDate : List ℕ → Option ℕ → Type 0
ReadsDate text (Some at) = (d : HttpDate) × httpdate.IsDateText text d × (at ≡ httpdate.unix_secs d * 10000000)
ReadsDate text None = (d : HttpDate) → httpdate.IsDateText text d → ⊥
