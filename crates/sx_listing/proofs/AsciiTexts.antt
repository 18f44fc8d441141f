-- The texts of header dates and of ETags are ASCII.
use Rattle.std.proofs.Common.{codes, ◌≡◌, ℕ, zero, suc, ◌-◌, ◌*◌, ◌/◌, ◌%◌, Bool, true, ◌&&◌, ltb, List, [], ◌∷◌, ◌++◌, take, drop, refl, arith}
use Rattle.std.proofs.lemmas.Bool.{and_parts, ltb-true}
use Rattle.std.specs.Str.{is_utf8}
use Rattle.sx_text.specs.Digits.{digits_text}
use Rattle.sx_text.specs.Hex.{hex_digit, hex_text}
use Rattle.sx_text.proofs.Utf8.{whole_utf8}
use Rattle.sx_base.specs.Moment.{Day, days_before, civil_day, time_of_day, time_text}
use Rattle.sx_base.specs.Date.{weekday_name, month_name, dated_text, date_text}
use Rattle.sx_listing.proofs.MomentTexts.{IsAscii, ascii_whole, both, behind, ascii_clock}
use Rattle.sx_listing.proofs.Percents.{digit_low}

abbrev all_ascii : List ℕ → Bool
all_ascii [] = true
all_ascii (b ∷ bs) = ltb b 128 && all_ascii bs

ascii_by : (bytes : List ℕ) → all_ascii bytes ≡ true → IsAscii bytes
ascii_by [] e = tt
ascii_by (b ∷ bs) e = let p = and_parts (ltb b 128) (all_ascii bs) e in (ltb-true b 128 p.0, ascii_by bs p.1)

ascii_take : (n : ℕ) (bytes : List ℕ) → IsAscii bytes → IsAscii (take n bytes)
ascii_take zero bytes h = tt
ascii_take (suc n) [] h = tt
ascii_take (suc n) (b ∷ bs) h = (h.0, ascii_take n bs h.1)

ascii_drop : (n : ℕ) (bytes : List ℕ) → IsAscii bytes → IsAscii (drop n bytes)
ascii_drop zero bytes h = h
ascii_drop (suc n) [] h = tt
ascii_drop (suc n) (b ∷ bs) h = ascii_drop n bs h.1

-- ---- header dates

ascii_weekday : (weekday : ℕ) → IsAscii (weekday_name weekday)
unfolding weekday_name
ascii_weekday weekday =
    let letters = codes "ThuFriSatSunMonTueWed" in
    ascii_take 3 (drop (3 * weekday) letters) (ascii_drop (3 * weekday) letters (ascii_by letters refl))

ascii_month : (month : ℕ) → IsAscii (month_name month)
unfolding month_name
ascii_month month =
    let letters = codes "JanFebMarAprMayJunJulAugSepOctNovDec" in
    ascii_take 3 (drop (3 * (month - 1)) letters) (ascii_drop (3 * (month - 1)) letters (ascii_by letters refl))

ascii_dated : (weekday : ℕ) (d : Day) → IsAscii (dated_text weekday d)
ascii_dated weekday d =
    both (weekday_name weekday) ((codes ", " ++ digits_text 2 d.1.1) ++ ((codes " " ++ month_name d.1.0) ++ (codes " " ++ digits_text 4 d.0)))
    (ascii_weekday weekday)
    (both (codes ", " ++ digits_text 2 d.1.1) ((codes " " ++ month_name d.1.0) ++ (codes " " ++ digits_text 4 d.0))
    (omega arith, behind 32 2 d.1.1 (omega arith))
    (both (codes " " ++ month_name d.1.0) (codes " " ++ digits_text 4 d.0) (omega arith, ascii_month d.1.0) (behind 32 4 d.0 (omega arith))))

ascii_date : (at : ℕ) → IsAscii (date_text at)
unfolding date_text
ascii_date at =
    let days = days_before at in
    both (dated_text (days % 7) (civil_day days)) (time_text (codes " ") (time_of_day at) ++ codes " GMT")
    (ascii_dated (days % 7) (civil_day days))
    (both (time_text (codes " ") (time_of_day at)) (codes " GMT") (ascii_clock 32 (time_of_day at) (omega arith)) (ascii_by (codes " GMT") refl))

pub date_utf8 : (at : ℕ) → is_utf8 (date_text at) ≡ true
date_utf8 at = whole_utf8 (date_text at) (ascii_whole (date_text at) (ascii_date at))

-- ---- ETags

ascii_hex : (count n : ℕ) → IsAscii (hex_text count n)
ascii_hex zero n = tt
ascii_hex (suc count) n = both (hex_text count (n / 16)) (hex_digit (n % 16) ∷ []) (ascii_hex count (n / 16)) (digit_low (n % 16) (omega arith), tt)

pub hex_utf8 : (count n : ℕ) → is_utf8 (hex_text count n) ≡ true
hex_utf8 count n = whole_utf8 (hex_text count n) (ascii_whole (hex_text count n) (ascii_hex count n))
