-- The header date of a moment in plain arithmetic is its IMF-fixdate by httpdate.
use Rattle.std.proofs.Common.{codes, ◌≡◌, ℕ, zero, suc, ◌+◌, ◌/◌, ◌%◌, ◌≤◌, ◌<◌, List, ◌++◌, refl, sym, ap, ◌∙◌, arith, append_assoc, pos}
use Rattle.jiff_core.proofs.CalendarLemmas.{days_in_month_bounds}
use Rattle.httpdate.specs.declared.parts.Parts.{Parts}
use Rattle.httpdate.specs.declared.date.HttpDate.{HttpDate}
use Rattle.httpdate.specs.Calendar.{weekday}
use Rattle.httpdate.specs.Text as httpdate
use Rattle.httpdate.specs.Valid.{IsValid, parts_secs}
use Rattle.httpdate.specs.Date.{unix_secs}
use Rattle.httpdate.proofs.ValidLemmas.{is_valid_complete}
use Rattle.httpdate.proofs.CalendarLemmas.{days_from_civil_bound}
use Rattle.httpdate.proofs.Theorems.{date_text_is}
use Rattle.sx_text.specs.Digits.{digits_text}
use Rattle.sx_base.specs.Moment.{Day, IsWritten, days_before, civil_day, time_of_day, time_text}
use Rattle.sx_base.specs.Date.{weekday_name, month_name, date_text, dated_text, IsDateOf}
use Rattle.sx_base.proofs.Calendars.{IsDayOf, day_of_number}
use Rattle.sx_base.proofs.MomentFields.{IsInCalendar, written_in_calendar}

two : (n : ℕ) → n < 100 → httpdate.two_digits n ≡ digits_text 2 n
two n lt = let e : n / 10 % 10 ≡ n / 10 = omega (arith, lt) in rw e refl

four : (n : ℕ) → n < 10000 → httpdate.four_digits n ≡ digits_text 4 n
four n lt =
    let a : n / 100 / 10 ≡ n / 10 / 10 / 10 % 10 = omega (arith, lt) in
    let b : n / 100 % 10 ≡ n / 10 / 10 % 10 = omega (arith, lt) in
    let c : n % 100 / 10 ≡ n / 10 % 10 = omega (arith, lt) in
    let d : n % 100 % 10 ≡ n % 10 = omega (arith, lt) in
    rw (a, b, c, d) refl

named_day : (n : ℕ) → n < 7 → httpdate.day_name ((n + 3) % 7 + 1) ≡ weekday_name n
unfolding weekday_name
named_day zero lt = refl
named_day (suc zero) lt = refl
named_day (suc (suc zero)) lt = refl
named_day (suc (suc (suc zero))) lt = refl
named_day (suc (suc (suc (suc zero)))) lt = refl
named_day (suc (suc (suc (suc (suc zero))))) lt = refl
named_day (suc (suc (suc (suc (suc (suc zero)))))) lt = refl
named_day (suc (suc (suc (suc (suc (suc (suc n))))))) lt = absurd (omega (arith, lt))

named_weekday : (days : ℕ) → httpdate.day_name (weekday days) ≡ weekday_name (days % 7)
named_weekday days =
    let e : (days + 3) % 7 ≡ (days % 7 + 3) % 7 = omega arith in
    ap (λ (n : ℕ). httpdate.day_name (n + 1)) e ∙ named_day (days % 7) (omega arith)

named_month : (n : ℕ) → n < 12 → httpdate.month_name (suc n) ≡ month_name (suc n)
unfolding month_name
named_month zero lt = refl
named_month (suc zero) lt = refl
named_month (suc (suc zero)) lt = refl
named_month (suc (suc (suc zero))) lt = refl
named_month (suc (suc (suc (suc zero)))) lt = refl
named_month (suc (suc (suc (suc (suc zero))))) lt = refl
named_month (suc (suc (suc (suc (suc (suc zero)))))) lt = refl
named_month (suc (suc (suc (suc (suc (suc (suc zero))))))) lt = refl
named_month (suc (suc (suc (suc (suc (suc (suc (suc zero)))))))) lt = refl
named_month (suc (suc (suc (suc (suc (suc (suc (suc (suc zero))))))))) lt = refl
named_month (suc (suc (suc (suc (suc (suc (suc (suc (suc (suc zero)))))))))) lt = refl
named_month (suc (suc (suc (suc (suc (suc (suc (suc (suc (suc (suc zero))))))))))) lt = refl
named_month (suc (suc (suc (suc (suc (suc (suc (suc (suc (suc (suc (suc n)))))))))))) lt = absurd (omega (arith, lt))

month_is : (m : ℕ) → 1 ≤ m → m ≤ 12 → httpdate.month_name m ≡ month_name m
month_is zero low high = absurd (omega (arith, low))
month_is (suc m) low high = named_month m (omega (arith, high))

-- the parts of a moment's date
parts_at : ℕ → ℕ → Day → Parts
parts_at at days d = record {
  year = d.0;
  mon = d.1.0;
  day = d.1.1;
  hour = at / 10000000 / 3600 % 24;
  min = at / 10000000 / 60 % 60;
  sec = at / 10000000 % 60;
  wday = weekday days;
}

parts_valid : (at days : ℕ) (d : Day) → IsDayOf days d → IsValid (parts_at at days d)
unfolding parts_at
parts_valid at days d h = (h.0, (omega arith, omega arith, omega arith), ap weekday (sym h.1))

parts_second : (at : ℕ) (d : Day) → IsDayOf (days_before at) d → parts_secs (parts_at at (days_before at) d) ≡ at / 10000000
unfolding parts_at
parts_second at d h = omega (arith, h.1)

grouped : (w comma d space m y h colon mi s gmt : List ℕ)
    → w ++ comma ++ d ++ space ++ m ++ space ++ y ++ space ++ (h ++ colon ++ mi ++ colon ++ s) ++ gmt
    ≡ (w ++ ((comma ++ d) ++ ((space ++ m) ++ (space ++ y)))) ++ (((space ++ h) ++ ((colon ++ mi) ++ (colon ++ s))) ++ gmt)
grouped w comma d space m y h colon mi s gmt = simp append_assoc

text_is : (at days : ℕ) (d : Day) → IsDayOf days d → httpdate.imf_fixdate (parts_at at days d) ≡ dated_text (days % 7) d ++ (time_text (codes " ") (time_of_day at) ++ codes " GMT")
unfolding parts_at
text_is at days d h =
    let weekday = named_weekday days in
    let day = two d.1.1 (omega (arith, h.0.2.1, (days_in_month_bounds (pos d.0) d.1.0).0)) in
    let month = month_is d.1.0 h.0.1.0 h.0.1.1 in
    let year = four d.0 (omega (arith, h.0.0.1)) in
    let hour = two (at / 10000000 / 3600 % 24) (omega arith) in
    let minute = two (at / 10000000 / 60 % 60) (omega arith) in
    let second = two (at / 10000000 % 60) (omega arith) in
    (λ i. weekday i ++ codes ", " ++ day i ++ codes " " ++ month i ++ codes " " ++ year i ++ codes " " ++ (hour i ++ codes ":" ++ minute i ++ codes ":" ++ second i) ++ codes " GMT")
    ∙ grouped (weekday_name (days % 7)) (codes ", ") (digits_text 2 d.1.1) (codes " ") (month_name d.1.0) (digits_text 4 d.0)
    (digits_text 2 (at / 10000000 / 3600 % 24)) (codes ":") (digits_text 2 (at / 10000000 / 60 % 60)) (digits_text 2 (at / 10000000 % 60)) (codes " GMT")

-- ---- the law

dated_in_calendar : (d : HttpDate) (at : ℕ) → unix_secs d ≡ at / 10000000 → IsInCalendar at
dated_in_calendar d at e = omega (arith, e, days_from_civil_bound d.parts.year d.parts.mon d.parts.day d.civil, d.time.0, d.time.1, d.time.2)

pub one_date_only : (text : List ℕ) (at : ℕ) → IsDateOf text at → text ≡ date_text at
unfolding date_text
one_date_only text at h =
    let days = days_before at in
    let d = civil_day days in
    let is = day_of_number days (dated_in_calendar h.0 at h.1) in
    h.2 ∙ date_text_is h.0 (parts_at at days d) (is_valid_complete (parts_at at days d) (parts_valid at days d is)) (h.1 ∙ sym (parts_second at d is)) ∙ text_is at days d is

pub one_date_at : (at : ℕ) → IsWritten at → IsDateOf (date_text at) at
unfolding date_text
one_date_at at le =
    let days = days_before at in
    let d = civil_day days in
    let is = day_of_number days (written_in_calendar at le) in
    let valid = parts_valid at days d is in
    (record { parts = parts_at at days d; civil = valid.0; time = valid.1; right_day = valid.2 }, parts_second at d is, sym (text_is at days d is))
