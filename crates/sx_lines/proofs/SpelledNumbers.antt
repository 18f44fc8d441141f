-- Numbers in decimal digits are read back.
use Rattle.std.proofs.Common.{◌≡◌, ℕ, zero, suc, ◌+◌, ◌/◌, ◌%◌, ◌^◌, ◌≤◌, ◌<◌, ◌⊎◌, Bool, true, false, not, ◌&&◌, ◌==◌, nat_le, List, [], ◌∷◌, ◌++◌, length, slice_index, get_or, Option, Some}
use Rattle.std.proofs.Common.{refl, sym, ap, subst, ◌∙◌, arith, inl, inr}
use Rattle.std.specs.Char.{is_ascii_digit}
use Rattle.std.specs.Fmt.{decimal}
use Rattle.std.specs.List.{list_all}
use Rattle.std.specs.Str.Parse.{digits_value}
use Rattle.std.proofs.lemmas.Bool.{ne_eqb, le-leb, lt-leb, cases_lt, and_from}
use Rattle.std.proofs.lemmas.Fmt.{decimal_by_steps, decimal_nonempty, decimal_is_IsNumeral, decimal_digit, length-decimal-le, first_decimal}
use Rattle.sx_lines.specs.Fields.{is_decimal_word, number_within, number_in}
use Rattle.sx_lines.proofs.SpelledWords.{is_visible, IsWord, both_pass, all_weaker}

digit_passes : (b : ℕ) → 48 ≤ b → b ≤ 57 → is_ascii_digit b ≡ true
digit_passes b low high = grind arith

digits_pass : (n : ℕ) → n < 2 ^ 64 → list_all is_ascii_digit (decimal n) ≡ true
digits_pass = decimal_by_steps (λ _ ds. list_all is_ascii_digit ds ≡ true)
    (λ n l. and_from _ _ (digit_passes (48 + n) (omega arith) (omega arith)) refl)
    (λ n ds l h. both_pass is_ascii_digit ds ((48 + n % 10) ∷ []) h (and_from _ _ (digit_passes (48 + n % 10) (omega arith) (omega arith)) refl))

digit_visible : (b : ℕ) → is_ascii_digit b ≡ true → is_visible b ≡ true
digit_visible b h = grind arith

pub decimal_word : (n : ℕ) → n < 2 ^ 64 → IsWord (decimal n)
decimal_word n h = all_weaker is_ascii_digit is_visible digit_visible (decimal n) (digits_pass n h)

no_zero : (n : ℕ) → n < 2 ^ 64 → (nat_le 2 (length (decimal n)) && (slice_index (decimal n) 0 == 48)) ≡ false
no_zero zero h = rw (decimal_digit 0 (omega arith)) refl
no_zero (suc n) h =
    let first = first_decimal (suc n) (omega arith) h in
    let other : (slice_index (decimal (suc n)) 0 == 48) ≡ false = ne_eqb _ 48 (λ q. omega (arith, q, first)) in
    rw other (by (nat_le 2 (length (decimal (suc n)))))
  where
    by : (b : Bool) → (b && false) ≡ false
    by true = refl
    by false = refl

pub is_decimal : (n : ℕ) → n < 2 ^ 64 → is_decimal_word (decimal n) ≡ true
is_decimal n h =
    let some = decimal_nonempty n h in
    let few = length-decimal-le 20 n (omega arith) (omega (arith, h)) h in
    rw (le-leb 1 (length (decimal n)) (omega (arith, some)), le-leb (length (decimal n)) 20 few, digits_pass n h, no_zero n h) refl

pub number_is : (least most n : ℕ) → least ≤ n → n ≤ most → n < 2 ^ 64 → number_in least most (decimal n) ≡ Some n
unfolding number_in
number_is least most n low high h =
    rw (is_decimal n h, (decimal_is_IsNumeral n h).1, le-leb least n low, le-leb n most high) refl
