-- The day of a moment in plain arithmetic is its day in the calendars of jiff and of httpdate.
use Rattle.std.proofs.Common.{◌≡◌, ℕ, zero, suc, ◌+◌, ◌-◌, ◌*◌, ◌/◌, ◌%◌, ◌≤◌, ◌<◌, refl, ap, arith, inl, inr, pos}
use Rattle.std.proofs.lemmas.Bool.{cases_lt, lt-ltb, le-ltb}
use Rattle.jiff_core.specs.Calendar as jiff
use Rattle.jiff_core.specs.March.{march_days, march_months}
use Rattle.jiff_core.proofs.SignedLemmas.{signed_arith}
use Rattle.jiff_core.proofs.CalendarLemmas.{days_from_civil-day_count, day_count-day_of_year}
use Rattle.jiff_core.proofs.MarchLemmas.{march_days-suc, day_count-early, month_and_day, day_in_month, day_in_early_month, days_of_months-early, days_of_months-late}
use Rattle.httpdate.specs.Calendar.{days_of_years, days_of_months, days_in_month, days_from_civil, IsCivilDate}
use Rattle.httpdate.proofs.CalendarLemmas.{days_of_years_closed}
use Rattle.sx_base.specs.Moment.{Day, civil_day}

-- ---- one calendar

same_months : (y k : ℕ) → jiff.days_of_months (pos y) k ≡ days_of_months y k
unfolding jiff.days_of_months days_of_months
same_months y zero = refl
same_months y (suc k) = ap (λ (n : ℕ). n + days_in_month y (suc k)) (same_months y k)

first_of_year : (y : ℕ) → 1970 ≤ y → jiff.day_count (pos y) 1 1 ≡ days_of_years (y - 1970) + 4371953
first_of_year y le =
    let back : y - 1970 + 369 ≡ y - 1601 = omega arith in
    omega (arith, day_count-early (pos y) (y + 9999) 1 1 (omega (arith, signed_arith)) (omega arith) (omega arith) (omega arith), rw back at (days_of_years_closed (y - 1970)))

-- the day number of jiff is that of httpdate
pub same_number : (y m d : ℕ) → 1970 ≤ y → 1 ≤ d → jiff.days_from_civil (pos y) m d ≡ pos (days_from_civil y m d)
same_number y m d le first =
    omega (
      arith,
      signed_arith,
      days_from_civil-day_count (pos y) m d,
      day_count-day_of_year (pos y) m d first,
      first_of_year y le,
      same_months y (m - 1),
    )

-- ---- the day of a number

abbrev quarters : ℕ → ℕ
quarters day = 4 * day + 3

abbrev of_century : ℕ → ℕ
of_century day = quarters day % 146097 / 4 * 4 + 3

abbrev march_year : ℕ → ℕ
march_year day = 100 * (quarters day / 146097) + of_century day / 1461

abbrev of_year : ℕ → ℕ
of_year day = of_century day % 1461 / 4

march_from : (day : ℕ) → march_days (march_year day) + of_year day ≡ day
march_from day = omega arith

march_before : (day : ℕ) → day < march_days (march_year day + 1)
march_before day = omega arith

few : (day : ℕ) → of_year day < 366
few day = omega arith

-- the number of a day in March or later
late_number : (y m d : ℕ) → 1970 ≤ y → 3 ≤ m → m ≤ 12 → 1 ≤ d → days_from_civil y m d + 719468 + 1 ≡ march_days y + march_months m + d
late_number y m d le low high first =
    let back : y - 1970 + 369 ≡ y - 1601 = omega arith in
    let next : suc (y - 1) ≡ y = omega arith in
    omega (
      arith,
      rw back at (days_of_years_closed (y - 1970)),
      same_months y (m - 1),
      days_of_months-late (pos y) m low (omega arith),
      rw next at (march_days-suc (y - 1)),
    )

-- the number of a day before March, of which the year began in March of the year before
early_number : (y m d : ℕ) → 1970 ≤ suc y → 1 ≤ m → m ≤ 2 → 1 ≤ d → days_from_civil (suc y) m d + 719468 + 1 ≡ march_days y + march_months (m + 12) + d
early_number y m d le low high first =
    let back : suc y - 1970 + 369 ≡ y - 1600 = omega arith in
    omega (
      arith,
      rw back at (days_of_years_closed (suc y - 1970)),
      same_months (suc y) (m - 1),
      days_of_months-early (pos (suc y)) m low high,
    )

-- a day of the calendar, and its number
abbrev pub IsDayOf : ℕ → Day → Type 0
IsDayOf days d = IsCivilDate d.0 d.1.0 d.1.1 × (days_from_civil d.0 d.1.0 d.1.1 ≡ days)

abbrev month_of : ℕ → ℕ
month_of n = (5 * n + 461) / 153

abbrev day_of : ℕ → ℕ
day_of n = (5 * n + 461) % 153 / 5 + 1

late_day : (days y n : ℕ) → march_days y + n ≡ days + 719468 → n < 366 → days < 2932897 → month_of n ≤ 12 → IsDayOf days (y, (month_of n, day_of n))
late_day days y n e few lt le =
    let from : 1970 ≤ y = omega (arith, e, le) in
    let low : 3 ≤ month_of n = omega arith in (
      ((from, omega (arith, e, lt)), (omega (arith, low), le), (omega arith, day_in_month (pos y) n le)),
      omega (arith, e, late_number y (month_of n) (day_of n) from low le (omega arith), month_and_day n few),
    )

early_day : (days y n : ℕ) → march_days y + n ≡ days + 719468 → days + 719468 < march_days (suc y) → n < 366 → days < 2932897 → 12 < month_of n → IsDayOf days (suc y, (month_of n - 12, day_of n))
early_day days y n e before few lt gt =
    let from : 1970 ≤ suc y = omega (arith, e) in
    let low : 1 ≤ month_of n - 12 = omega (arith, gt) in
    let high : month_of n - 12 ≤ 2 = omega (arith, few) in
    let back : month_of n - 12 + 12 ≡ month_of n = omega (arith, gt) in (
      ((from, omega (arith, e, lt, gt)), (low, omega (arith, high)), (omega arith, day_in_early_month (pos (suc y)) n gt (omega (arith, e, before, march_days-suc y)))),
      omega (arith, e, rw back at (early_number y (month_of n - 12) (day_of n) from low high (omega arith)), month_and_day n few),
    )

-- the day of a number is the calendar's
pub day_of_number : (days : ℕ) → days < 2932897 → IsDayOf days (civil_day days)
unfolding civil_day
day_of_number days lt =
    let day = days + 719468 in
    let next : march_year day + 1 ≡ suc (march_year day) = omega arith in
    elim (cases_lt 12 (month_of (of_year day))) [
      | inl gt ↦ rw (lt-ltb 12 (month_of (of_year day)) gt, next) (early_day days (march_year day) (of_year day) (march_from day) (rw next at (march_before day)) (few day) lt gt)
      | inr le ↦ rw (le-ltb 12 (month_of (of_year day)) le) (late_day days (march_year day) (of_year day) (march_from day) (few day) lt le)
    ]
