-- The texts of moments are read exactly, by their fields.
use Rattle.std.proofs.Common.{codes, ℕ, ◌≤◌, Bool, true, false, cond, eqb, ◌&&◌, ◌||◌, List, [], ◌++◌, arith, pos}
use Rattle.std.proofs.lemmas.Bool.{cases_eq}
use Rattle.jiff.specs.Words.{days_in_month, is_leap_year}
use Rattle.sx_text.specs.Readers.{pair_at}
use Rattle.sx_text.specs.Numbers.{IsFrom}
use Rattle.sx_text.specs.Digits.{digits_text, digits_after}
use Rattle.sx_text.proofs.Laws.{Reads, pair-reading}
use Rattle.sx_text.proofs.Literals.{closed-reading}
use Rattle.sx_text.proofs.FixedDigits.{digits_after-reading}
use Rattle.sx_base.specs.Moment.{Day, TimeOfDay, day_text, time_text, fields_text}
use Rattle.sx_base.specs.MomentReader.{is_last_day, month_most, day_most, hour_most, minute_most, second_most, ticks_most, IsDay, IsTimeOfDay, IsFields, day_at, time_at, ticks_at, fields_at}

-- each greatest value is at least the least, and has so few digits
between : (b : Bool) (low x y high : ℕ) → low ≤ x → low ≤ y → x ≤ high → y ≤ high → (low ≤ cond b x y) × (cond b x y ≤ high)
between true low x y high a c d e = (a, d)
between false low x y high a c d e = (c, e)

pub month_most_is : (y : ℕ) → (1 ≤ month_most y) × (month_most y ≤ 99)
unfolding month_most
month_most_is y = between (eqb y 9892) 1 3 12 99 (omega arith) (omega arith) (omega arith) (omega arith)

pub days_in_is : (y m : ℕ) → (28 ≤ days_in_month (pos y) m) × (days_in_month (pos y) m ≤ 99)
days_in_is y m =
    let f = between (is_leap_year (pos y)) 28 29 28 99 (omega arith) (omega arith) (omega arith) (omega arith) in
    let g = between ((eqb m 4) || (eqb m 6) || (eqb m 9) || (eqb m 11)) 28 30 31 99 (omega arith) (omega arith) (omega arith) (omega arith) in
    between (eqb m 2) 28 (cond (is_leap_year (pos y)) 29 28) (cond ((eqb m 4) || (eqb m 6) || (eqb m 9) || (eqb m 11)) 30 31) 99 f.0 g.0 f.1 g.1

pub day_most_is : (y m : ℕ) → (1 ≤ day_most y m) × (day_most y m ≤ 99)
unfolding day_most
day_most_is y m = let d = days_in_is y m in between (eqb y 9892 && eqb m 3) 1 8 (days_in_month (pos y) m) 99 (omega arith) (omega (arith, d.0)) (omega arith) d.1

pub hour_most_is : (d : Day) → hour_most d ≤ 99
unfolding hour_most
hour_most_is d = (between (is_last_day d) 0 12 23 99 (omega arith) (omega arith) (omega arith) (omega arith)).1

pub minute_most_is : (d : Day) (h : ℕ) → minute_most d h ≤ 99
unfolding minute_most
minute_most_is d h = (between (is_last_day d && eqb h 12) 0 33 59 99 (omega arith) (omega arith) (omega arith) (omega arith)).1

pub second_most_is : (d : Day) (h m : ℕ) → second_most d h m ≤ 99
unfolding second_most
second_most_is d h m = (between (is_last_day d && (eqb h 12 && eqb m 33)) 0 49 59 99 (omega arith) (omega arith) (omega arith) (omega arith)).1

pub ticks_most_is : (d : Day) (t : TimeOfDay) → ticks_most d t ≤ 9999999
unfolding ticks_most
ticks_most_is d t = (between (is_last_day d && (eqb t.0 12 && (eqb t.1.0 33 && eqb t.1.1 49))) 0 4967295 9999999 9999999 (omega arith) (omega arith) (omega arith) (omega arith)).1

day-reading : Reads cases_eq day_text IsDay day_at
unfolding day_at
day-reading k =
    pair-reading cases_eq k (digits_text 4) (IsFrom 1970 9892) (digits_after [] 3 1970 9892)
    (λ y md. (codes "-" ++ digits_text 2 md.0) ++ (codes "-" ++ digits_text 2 md.1)) (λ y md. IsFrom 1 (month_most y) md.0 × IsFrom 1 (day_most y md.0) md.1)
    (λ y. pair_at (digits_after (codes "-") 1 1 (month_most y)) (λ m. digits_after (codes "-") 1 1 (day_most y m)))
    (digits_after-reading [] 3 1970 9892 (omega arith) (omega arith))
    (λ y h. ((1, 1), ((omega arith, (month_most_is y).0), (omega arith, (day_most_is y 1).0))))
    (λ y j h le. pair-reading cases_eq j (λ m. codes "-" ++ digits_text 2 m) (IsFrom 1 (month_most y)) (digits_after (codes "-") 1 1 (month_most y))
    (λ m d. codes "-" ++ digits_text 2 d) (λ m d. IsFrom 1 (day_most y m) d) (λ m. digits_after (codes "-") 1 1 (day_most y m))
    (digits_after-reading (codes "-") 1 1 (month_most y) (month_most_is y).0 (omega (arith, (month_most_is y).1)))
    (λ m q. (1, (omega arith, (day_most_is y m).0)))
    (λ m i q le. digits_after-reading (codes "-") 1 1 (day_most y m) (day_most_is y m).0 (omega (arith, (day_most_is y m).1)) i))

pub time-reading : (literal : List ℕ) (d : Day) → Reads cases_eq (time_text literal) (IsTimeOfDay d) (time_at literal d)
unfolding time_at
time-reading literal d k =
    pair-reading cases_eq k (λ h. literal ++ digits_text 2 h) (IsFrom 0 (hour_most d)) (digits_after literal 1 0 (hour_most d))
    (λ h ms. (codes ":" ++ digits_text 2 ms.0) ++ (codes ":" ++ digits_text 2 ms.1)) (λ h ms. IsFrom 0 (minute_most d h) ms.0 × IsFrom 0 (second_most d h ms.0) ms.1)
    (λ h. pair_at (digits_after (codes ":") 1 0 (minute_most d h)) (λ m. digits_after (codes ":") 1 0 (second_most d h m)))
    (digits_after-reading literal 1 0 (hour_most d) (omega arith) (omega (arith, hour_most_is d)))
    (λ h q. ((0, 0), ((omega arith, omega arith), (omega arith, omega arith))))
    (λ h j q le. pair-reading cases_eq j (λ m. codes ":" ++ digits_text 2 m) (IsFrom 0 (minute_most d h)) (digits_after (codes ":") 1 0 (minute_most d h))
    (λ m s. codes ":" ++ digits_text 2 s) (λ m s. IsFrom 0 (second_most d h m) s) (λ m. digits_after (codes ":") 1 0 (second_most d h m))
    (digits_after-reading (codes ":") 1 0 (minute_most d h) (omega arith) (omega (arith, minute_most_is d h)))
    (λ m r. (0, (omega arith, omega arith)))
    (λ m i r le. digits_after-reading (codes ":") 1 0 (second_most d h m) (omega arith) (omega (arith, second_most_is d h m)) i))

ticks-reading : (d : Day) (t : TimeOfDay) → Reads cases_eq (λ f. (codes "." ++ digits_text 7 f) ++ codes "Z") (IsFrom 0 (ticks_most d t)) (ticks_at d t)
unfolding ticks_at
ticks-reading d t = closed-reading (λ f. codes "." ++ digits_text 7 f) (IsFrom 0 (ticks_most d t)) (digits_after (codes ".") 6 0 (ticks_most d t)) (codes "Z")
    (digits_after-reading (codes ".") 6 0 (ticks_most d t) (omega arith) (omega (arith, ticks_most_is d t)))

pub fields-reading : Reads cases_eq fields_text IsFields fields_at
unfolding fields_at fields_text
fields-reading k =
    pair-reading cases_eq k day_text IsDay day_at
    (λ d tf. time_text (codes "T") tf.0 ++ ((codes "." ++ digits_text 7 tf.1) ++ codes "Z")) (λ d tf. IsTimeOfDay d tf.0 × IsFrom 0 (ticks_most d tf.0) tf.1)
    (λ d. pair_at (time_at (codes "T") d) (λ t. ticks_at d t))
    day-reading
    (λ d h. (((0, (0, 0)), 0), (((omega arith, omega arith), ((omega arith, omega arith), (omega arith, omega arith))), (omega arith, omega arith))))
    (λ d j h le. pair-reading cases_eq j (time_text (codes "T")) (IsTimeOfDay d) (time_at (codes "T") d) (λ t f. (codes "." ++ digits_text 7 f) ++ codes "Z") (λ t f. IsFrom 0 (ticks_most d t) f) (λ t. ticks_at d t)
    (time-reading (codes "T") d)
    (λ t q. (0, (omega arith, omega arith)))
    (λ t i q le. ticks-reading d t i))
