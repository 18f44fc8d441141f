-- Numbers in decimal digits.
use Rattle.std.proofs.Common.{ℕ, ◌<◌, ◌^◌, ◌≡◌, true, false, List, length, get_or, refl, arith, Option, Some, None}
use Rattle.std.specs.Prelude.{◌≢◌, IsUtf8, if◌then◌else◌}
use Rattle.std.specs.List.{list_all}
use Rattle.std.specs.Int.{IsInRange}
use Rattle.std.specs.Char.{is_ascii_digit}
use Rattle.std.specs.Str.Parse.{IsNumeral, digits_value, without_leading_plus}
use Rattle.std.proofs.lemmas.Bool.Decides.{nat_tests}
use Rattle.std.proofs.lemmas.List.Elements.{All-weaker}
use Rattle.std.proofs.lemmas.List.Sums.{AllPass-from_list_all}
use Rattle.std.proofs.lemmas.Str.{IsUtf8-from_ascii}
use Rattle.std.proofs.lemmas.Str.Ascii.{IsAscii-from_all}
use Rattle.std.proofs.lemmas.Str.Parse.{numerals_by_value, tells_by_index, without_leading_plus_none}
use Rattle.sx_http.specs.Framing.{is_number, number_of}

digit_is : (b : ℕ) → is_ascii_digit b ≡ true → IsInRange 48 57 b
digit_is b h = (grind arith, grind arith)

each_digit : (bs : List ℕ) → list_all is_ascii_digit bs ≡ true → (i : ℕ) → i < length bs → IsInRange 48 57 (get_or bs i 0)
each_digit bs e i lt = digit_is (get_or bs i 0) (AllPass-from_list_all is_ascii_digit bs e i 0 lt)

-- decimal digits are a text
pub digits_text : (bs : List ℕ) → list_all is_ascii_digit bs ≡ true → IsUtf8 bs
digits_text bs e =
    IsUtf8-from_ascii bs
    (IsAscii-from_all bs (All-weaker (λ b. is_ascii_digit b ≡ true) (λ b. b < 128) (λ b t. omega (arith, (digit_is b t).1)) bs (AllPass-from_list_all is_ascii_digit bs e)))

no_plus : (bs : List ℕ) → list_all is_ascii_digit bs ≡ true → 0 < length bs → get_or bs 0 0 ≢ 43
no_plus bs e lt same = let d = each_digit bs e 0 lt in omega (arith, d.0, same)

numeral : (bs : List ℕ) → list_all is_ascii_digit bs ≡ true → is_number bs ≡ true → IsNumeral 10 (without_leading_plus bs) × (digits_value 10 (without_leading_plus bs) < 2 ^ 64)
numeral bs e h =
    let some : 0 < length bs = grind (arith, nat_tests) in
    let small : digits_value 10 bs < 2 ^ 64 = grind (arith, nat_tests) in
    let all = (numerals_by_value (λ (ds : List ℕ). (i : ℕ) → i < length ds → IsInRange 48 57 (get_or ds i 0)) tells_by_index).to bs (each_digit bs e) in
    rw (without_leading_plus_none bs (no_plus bs e some)) ((some, all), small)

-- digits that are no numeral below 2^64 write no number
pub not_number : (bs : List ℕ) → list_all is_ascii_digit bs ≡ true → ¬ (IsNumeral 10 (without_leading_plus bs) × (digits_value 10 (without_leading_plus bs) < 2 ^ 64)) → None ≡ number_of bs
not_number bs e wrong =
    elim (is_number bs) as (λ b. is_number bs ≡ b → ◌≡◌ {A = Option ℕ} None (if b then Some (digits_value 10 bs) else None)) [
      | true ↦ λ h. absurd (wrong (numeral bs e h))
      | false ↦ λ h. refl
    ] refl
