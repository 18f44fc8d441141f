-- Header dates are read exactly, by a weekday, a day that falls on it, and a time of the day.
use Rattle.std.proofs.Common.{codes, ◌≡◌, ℕ, zero, suc, ◌+◌, ◌-◌, ◌*◌, ◌%◌, ◌≤◌, ◌<◌, true, ◌&&◌, leb, eqb, List, ◌++◌, refl, sym, ap, ◌∙◌, arith, pos}
use Rattle.std.proofs.lemmas.Bool.{cases_eq, le-leb, leb-true, eq-eqb, eqb-true, and_from, and_parts}
use Rattle.jiff.specs.Words.{days_in_month}
use Rattle.jiff_core.proofs.CalendarLemmas.{days_in_month_bounds}
use Rattle.httpdate.specs.Calendar.{is_leap_year, days_of_years, days_of_months, days_from_civil}
use Rattle.sx_text.specs.Readers.{pair_at}
use Rattle.sx_text.specs.Numbers.{IsFrom}
use Rattle.sx_text.specs.Digits.{digits_text, digits_after}
use Rattle.sx_text.specs.Named.{IsNamed, named_at, named_after}
use Rattle.sx_text.proofs.Laws.{Reads, pair-reading, made-reading}
use Rattle.sx_text.proofs.Literals.{closed-reading}
use Rattle.sx_text.proofs.FixedDigits.{digits_after-reading}
use Rattle.sx_text.proofs.NameTexts.{named-reading, named_after-reading}
use Rattle.sx_base.specs.Moment.{Day, TimeOfDay, Fields, days_before, civil_day, time_of_day, time_text, fields_at_moment, moment_of}
use Rattle.sx_base.specs.MomentReader.{month_most, day_most, IsTimeOfDay, IsFields, time_at}
use Rattle.sx_base.specs.Date.{IsDated, weekday_name, month_name, dated_text, date_text}
use Rattle.sx_base.specs.DateReader.{Dated, day_shown, moment_shown, any_weekday, has_day, falls_on, IsDatedDay, IsDatedTime, day_after, dated_at, clock_after, date_at}
use Rattle.sx_base.proofs.Calendars.{day_of_number}
use Rattle.sx_base.proofs.CivilFields.{civil_fields, under_both}
use Rattle.sx_base.proofs.MomentReading.{time-reading}
use Rattle.sx_base.proofs.MomentFields.{fields_of_it, fields_within, moment_back, written_in_calendar}
use Rattle.sx_base.proofs.DateNames.{weekdays_apart, months_apart, years_apart}

-- ---- each day of a month falls on each weekday in some leap year

leap_year : (i m : ℕ) → i < 7 → (month_most (1972 + 4 * i) ≡ 12) × (day_most (1972 + 4 * i) m ≡ days_in_month (pos 1972) m) × (is_leap_year (1972 + 4 * i) ≡ true) × (days_of_years (1972 + 4 * i - 1970) ≡ 730 + 1461 * i)
unfolding month_most day_most days_of_years
leap_year zero m lt = (refl, refl, refl, refl)
leap_year (suc zero) m lt = (refl, refl, refl, refl)
leap_year (suc (suc zero)) m lt = (refl, refl, refl, refl)
leap_year (suc (suc (suc zero))) m lt = (refl, refl, refl, refl)
leap_year (suc (suc (suc (suc zero)))) m lt = (refl, refl, refl, refl)
leap_year (suc (suc (suc (suc (suc zero))))) m lt = (refl, refl, refl, refl)
leap_year (suc (suc (suc (suc (suc (suc zero)))))) m lt = (refl, refl, refl, refl)
leap_year (suc (suc (suc (suc (suc (suc (suc n))))))) m lt = absurd (omega (arith, lt))

leap_months : (y k : ℕ) → is_leap_year y ≡ true → days_of_months y k ≡ days_of_months 1972 k
unfolding days_of_months
leap_months y zero e = refl
leap_months y (suc k) e = rw (leap_months y k e, e) refl

some_year : (w d m : ℕ) → w < 7 → 1 ≤ d → 1 ≤ m → m ≤ 12 → d ≤ days_in_month (pos 1972) m → (y : ℕ) × IsNamed (falls_on w d m) 7923 1970 y
some_year w d m lw ld lm hm hd =
    let k = days_of_months 1972 (m - 1) in
    let i = (3 * w + 18 * (730 + k + (d - 1))) % 7 in
    let lt : i < 7 = omega arith in
    let y = 1972 + 4 * i in
    let facts = leap_year i m lt in
    let months = leap_months y (m - 1) facts.2 in
    let number : days_from_civil y m d ≡ 730 + 1461 * i + k + (d - 1) = omega (arith, facts.3, months) in
    let weekday : days_from_civil y m d % 7 ≡ w = omega (arith, number, lw) in (
      y,
      (
        omega arith,
        omega (arith, lt),
        and_from (leb m (month_most y) && leb d (day_most y m)) (eqb (days_from_civil y m d % 7) w)
            (and_from (leb m (month_most y)) (leb d (day_most y m)) (le-leb m (month_most y) (omega (arith, facts.0, hm))) (le-leb d (day_most y m) (omega (arith, facts.1, hd))))
            (eq-eqb (days_from_civil y m d % 7) w weekday),
      ),
    )

-- ---- the law of the reader's parts

day_text_after : ℕ × (ℕ × ℕ) → List ℕ
day_text_after x = (codes ", " ++ digits_text 2 x.0) ++ ((codes " " ++ month_name x.1.0) ++ (codes " " ++ digits_text 4 x.1.1))

IsDayAfter : ℕ → ℕ × (ℕ × ℕ) → Type 0
IsDayAfter w x = IsFrom 1 31 x.0 × (IsNamed (has_day x.0) 12 1 x.1.0 × IsNamed (falls_on w x.0 x.1.0) 7923 1970 x.1.1)

in_january : (d : ℕ) → d ≤ 31 → IsNamed (has_day d) 12 1 1
in_january d le = (omega arith, omega arith, le-leb d 31 le)

some_day : (w d : ℕ) → w < 7 → IsFrom 1 31 d → (x : ℕ × ℕ) × (IsNamed (has_day d) 12 1 x.0 × IsNamed (falls_on w d x.0) 7923 1970 x.1)
some_day w d lw h = let y = some_year w d 1 lw h.0 (omega arith) (omega arith) (omega (arith, h.1)) in ((1, y.0), (in_january d h.1, y.1))

day_after-reading : (w : ℕ) → w < 7 → Reads cases_eq day_text_after (IsDayAfter w) (day_after w)
unfolding day_after day_text_after IsDayAfter
day_after-reading w lw k =
    pair-reading cases_eq k (λ d. codes ", " ++ digits_text 2 d) (IsFrom 1 31) (digits_after (codes ", ") 1 1 31)
    (λ d x. (codes " " ++ month_name x.0) ++ (codes " " ++ digits_text 4 x.1)) (λ d x. IsNamed (has_day d) 12 1 x.0 × IsNamed (falls_on w d x.0) 7923 1970 x.1)
    (λ d. pair_at (named_after (codes " ") month_name (has_day d) 12 1) (λ m. named_after (codes " ") (digits_text 4) (falls_on w d m) 7923 1970))
    (digits_after-reading (codes ", ") 1 1 31 (omega arith) (omega arith))
    (λ d h. some_day w d lw h)
    (λ d j h le. pair-reading cases_eq j (λ m. codes " " ++ month_name m) (IsNamed (has_day d) 12 1) (named_after (codes " ") month_name (has_day d) 12 1)
    (λ m y. codes " " ++ digits_text 4 y) (λ m y. IsNamed (falls_on w d m) 7923 1970 y) (λ m. named_after (codes " ") (digits_text 4) (falls_on w d m) 7923 1970)
    (named_after-reading month_name (has_day d) (codes " ") 12 1 months_apart (1, in_january d h.1))
    (λ m q. some_year w d m lw h.0 q.0 (omega (arith, q.1)) (leb-true d (days_in_month (pos 1972) m) q.2))
    (λ m i q r. named_after-reading (digits_text 4) (falls_on w d m) (codes " ") 7923 1970 years_apart
    (some_year w d m lw h.0 q.0 (omega (arith, q.1)) (leb-true d (days_in_month (pos 1972) m) q.2)) i))

dated-reading : Reads cases_eq (λ (x : Dated). dated_text x.0 (day_shown x)) IsDatedDay dated_at
unfolding dated_at day_text_after IsDayAfter
dated-reading k =
    pair-reading cases_eq k weekday_name (IsNamed any_weekday 7 0) (named_at weekday_name any_weekday 7 0)
    (λ w x. day_text_after x) (λ w x. IsDayAfter w x) (λ w. day_after w)
    (named-reading weekday_name any_weekday 7 0 weekdays_apart (0, (omega arith, omega arith, refl)))
    (λ w h. let d = some_day w 1 (omega (arith, h.1)) (omega arith, omega arith) in ((1, d.0), ((omega arith, omega arith), d.1)))
    (λ w j h le. day_after-reading w (omega (arith, h.1)) j)

clock-reading : (x : Dated) → Reads cases_eq (λ t. time_text (codes " ") t ++ codes " GMT") (IsTimeOfDay (day_shown x)) (clock_after x)
unfolding clock_after
clock-reading x = closed-reading (time_text (codes " ")) (IsTimeOfDay (day_shown x)) (time_at (codes " ") (day_shown x)) (codes " GMT") (time-reading (codes " ") (day_shown x))

abbrev shown_text : Dated × TimeOfDay → List ℕ
shown_text x = dated_text x.0.0 (day_shown x.0) ++ (time_text (codes " ") x.1 ++ codes " GMT")

pub shown-reading : Reads cases_eq shown_text IsDatedTime (pair_at dated_at (λ x. clock_after x))
shown-reading k =
    pair-reading cases_eq k (λ (x : Dated). dated_text x.0 (day_shown x)) IsDatedDay dated_at
    (λ x t. time_text (codes " ") t ++ codes " GMT") (λ x t. IsTimeOfDay (day_shown x) t) (λ x. clock_after x)
    dated-reading
    (λ x h. ((0, (0, 0)), ((omega arith, omega arith), ((omega arith, omega arith), (omega arith, omega arith)))))
    (λ x j h le. clock-reading x j)

-- ---- what is shown, and the moment

-- what a moment shows
abbrev shown_at : ℕ → Dated × TimeOfDay
shown_at at = ((days_before at % 7, ((civil_day (days_before at)).1.1, ((civil_day (days_before at)).1.0, (civil_day (days_before at)).0))), time_of_day at)

abbrev fields_shown : Dated × TimeOfDay → Fields
fields_shown x = (day_shown x.0, (x.1, 0))

pub shown_fields : (x : Dated × TimeOfDay) → IsDatedTime x → IsFields (fields_shown x)
shown_fields ((w, (d, (m, y))), t) h =
    let p = and_parts (leb m (month_most y) && leb d (day_most y m)) (eqb (days_from_civil y m d % 7) w) h.0.1.1.1.2 in
    let q = and_parts (leb m (month_most y)) (leb d (day_most y m)) p.0 in
    (((h.0.1.1.1.0, omega (arith, h.0.1.1.1.1)), ((h.0.1.1.0.0, leb-true m (month_most y) q.0), (h.0.1.0.0, leb-true d (day_most y m) q.1))), (h.1, (omega arith, omega arith)))

shown_weekday : (x : Dated × TimeOfDay) → IsDatedTime x → days_from_civil x.0.1.1.1 x.0.1.1.0 x.0.1.0 % 7 ≡ x.0.0
shown_weekday ((w, (d, (m, y))), t) h =
    let p = and_parts (leb m (month_most y) && leb d (day_most y m)) (eqb (days_from_civil y m d % 7) w) h.0.1.1.1.2 in
    eqb-true (days_from_civil y m d % 7) w p.1

-- the moment that is shown shows so
moment_of_shown : (x : Dated × TimeOfDay) → IsDatedTime x → IsDated (moment_shown x) × (shown_at (moment_shown x) ≡ x)
moment_of_shown x h =
    let at = moment_shown x in
    let f = fields_of_it (fields_shown x) (shown_fields x h) in
    let day : civil_day (days_before at) ≡ day_shown x.0 = ap (λ (m : Fields). m.0) f.1 in
    let time : time_of_day at ≡ x.1 = ap (λ (m : Fields). m.1.0) f.1 in
    let ticks : at % 10000000 ≡ 0 = ap (λ (m : Fields). m.1.1) f.1 in
    let number = (day_of_number (days_before at) (written_in_calendar at f.0)).1 in
    let same : days_from_civil x.0.1.1.1 x.0.1.1.0 x.0.1.0 ≡ days_before at = sym (ap (λ (d : Day). days_from_civil d.0 d.1.0 d.1.1) day) ∙ number in
    let weekday : days_before at % 7 ≡ x.0.0 = ap (λ (n : ℕ). n % 7) (sym same) ∙ shown_weekday x h in
    ((f.0, ticks), λ i. ((weekday i, ((day i).1.1, ((day i).1.0, (day i).0))), time i))

day_in_leap : (y m d : ℕ) → d ≤ days_in_month (pos y) m → d ≤ days_in_month (pos 1972) m
day_in_leap y m d le = grind arith

shown_within : (at : ℕ) → IsDated at → IsDatedTime (shown_at at)
shown_within at h =
    let x = fields_within at h.0 in
    let f = fields_at_moment at in
    let y = f.0.0 in
    let m = f.0.1.0 in
    let d = f.0.1.1 in
    let c = civil_fields y m d f.1.0.0 f.1.0.1.0 f.1.0.1.1 f.1.1 x in
    let number = (day_of_number (days_before at) (written_in_calendar at h.0)).1 in
    let weekday : days_from_civil y m d % 7 ≡ days_before at % 7 = ap (λ (n : ℕ). n % 7) number in (
      (
        (omega arith, omega arith, refl),
        (
          (c.day.0, omega (arith, c.day.1, (days_in_month_bounds (pos y) m).0)),
          (
            (c.month.0, omega (arith, c.month.1), le-leb d (days_in_month (pos 1972) m) (day_in_leap y m d c.day.1)),
            (
              c.year.0,
              omega (arith, c.year.1),
              and_from (leb m (month_most y) && leb d (day_most y m)) (eqb (days_from_civil y m d % 7) (days_before at % 7))
                  (and_from (leb m (month_most y)) (leb d (day_most y m)) (le-leb m (month_most y) x.0.1.0.1) (le-leb d (day_most y m) x.0.1.1.1))
                  (eq-eqb (days_from_civil y m d % 7) (days_before at % 7) weekday),
            ),
          ),
        ),
      ),
      x.1.0,
    )

shown_moment_back : (at : ℕ) → IsDated at → moment_shown (shown_at at) ≡ at
shown_moment_back at h =
    let ticks : 0 ≡ at % 10000000 = sym h.1 in
    ap (λ (n : ℕ). moment_of (civil_day (days_before at), (time_of_day at, n))) ticks ∙ moment_back at (written_in_calendar at h.0)

pub date-reading : Reads cases_eq date_text IsDated date_at
unfolding date_at date_text
date-reading k =
    made-reading cases_eq k shown_text IsDatedTime (pair_at dated_at (λ x. clock_after x)) moment_shown shown_at date_text IsDated
    (λ x h. let m = moment_of_shown x h in (m.0, ap shown_text m.1))
    (λ at h. (shown_within at h, shown_moment_back at h))
    (shown-reading k)

-- ---- what the code uses

pub day_of_month : (y m d : ℕ) → d ≤ day_most y m → d ≤ days_in_month (pos y) m
unfolding day_most
day_of_month y m d le = under_both (eqb y 9892 && eqb m 3) 8 (days_in_month (pos y) m) d (omega (arith, (days_in_month_bounds (pos y) m).1)) le
