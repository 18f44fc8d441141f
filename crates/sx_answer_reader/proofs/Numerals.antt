-- A word that is read as a number is the number's decimal digits.
use Rattle.std.proofs.Common.{◌≡◌, ℕ, ◌^◌, ◌≤◌, ◌<◌, Bool, true, false, not, ◌&&◌, ◌==◌, nat_le, List, [], ◌∷◌, length, slice_index, get_or, Option, Some, None, if◌then◌else◌}
use Rattle.std.proofs.Common.{refl, sym, ap, ◌∙◌, arith}
use Rattle.std.specs.Char.{is_ascii_digit}
use Rattle.std.specs.Fmt.{decimal}
use Rattle.std.specs.List.{list_all}
use Rattle.std.specs.Str.Parse.{digits_value, AllDigits}
use Rattle.std.proofs.lemmas.Bool.{and_parts, leb-true}
use Rattle.std.proofs.lemmas.Fmt.{decimal-digits_value}
use Rattle.std.proofs.lemmas.Str.Parse.{numerals_by_value, tells_digits}
use Rattle.sx_lines.specs.Fields.{is_decimal_word, number_within, number_in}
use Rattle.sx_lines.proofs.DecimalDigits.{digit_is}

all_digits : (w : List ℕ) → list_all is_ascii_digit w ≡ true → AllDigits 10 w
all_digits [] e = tt
all_digits (b ∷ w) e =
    let parts = and_parts (is_ascii_digit b) (list_all is_ascii_digit w) e in
    let d = digit_is b parts.0 in
    (omega (arith, d.0, d.1, d.2), all_digits w parts.1)

-- no leading zero, or 0 alone
one_zero : (w : List ℕ) → not (nat_le 2 (length w) && slice_index w 0 == 48) ≡ true → 0 < length w → get_or w 0 0 ≡ 48 → length w ≡ 1
one_zero w e some first = grind (arith, e, some, first)

pub written : (w : List ℕ) → is_decimal_word w ≡ true → digits_value 10 w < 2 ^ 64 → (decimal (digits_value 10 w) ≡ w) × (0 < length w)
written w e small =
    let p = and_parts _ _ e in
    let q = and_parts _ _ p.0 in
    let r = and_parts _ _ q.0 in
    let some = leb-true 1 (length w) r.0 in
    (decimal-digits_value (numerals_by_value _ tells_digits) w (all_digits w q.1) (omega (arith, some)) (one_zero w p.1 (omega (arith, some))) small, omega (arith, some))

-- the value of a choice that was made
within_is : (b : Bool) (v n : ℕ) → (if b then Some v else None) ≡ Some n → (b ≡ true) × (v ≡ n)
within_is true v n e = (refl, cc)
within_is false v n e = cc

by_test : (b : Bool) (o : Option ℕ) (n : ℕ) → (if b then o else None) ≡ Some n → (b ≡ true) × (o ≡ Some n)
by_test true o n e = (refl, e)
by_test false o n e = cc

-- what a number's word is, and that it is within its limits
abbrev pub IsNumeral : ℕ → ℕ → List ℕ → ℕ → Type 0
IsNumeral least most w n = (w ≡ decimal n) × (0 < length (decimal n)) × (least ≤ n) × (n ≤ most)

pub numeral : (least most : ℕ) (w : List ℕ) (n : ℕ) → most < 2 ^ 64 → number_in least most w ≡ Some n → IsNumeral least most w n
unfolding number_in
numeral least most w n small e =
    let a = by_test (is_decimal_word w) (number_within least most (digits_value 10 w)) n e in
    let b = within_is (nat_le least (digits_value 10 w) && nat_le (digits_value 10 w) most) (digits_value 10 w) n a.1 in
    let c = and_parts (nat_le least (digits_value 10 w)) (nat_le (digits_value 10 w) most) b.0 in
    let low = leb-true least (digits_value 10 w) c.0 in
    let high = leb-true (digits_value 10 w) most c.1 in
    let d = written w a.0 (omega (arith, high, small)) in
    let is : w ≡ decimal n = sym d.0 ∙ ap decimal b.1 in
    (is, omega (arith, d.1, ap length is), omega (arith, low, b.1), omega (arith, high, b.1))
