-- Numbers, moments and ids as texts.
use native.Mathlib.Nat as nat
use Rattle.std.proofs.Common.{◌≡◌, ◌<◌, ◌≤◌, ℕ, zero, suc, ◌+◌, ◌*◌, ◌/◌, ◌%◌, ◌^◌, ◌==◌, nat_lt, nat_eq, true, false, List, [], ◌∷◌, ◌++◌, length, codes, bytes_eq, map}
use Rattle.std.proofs.Common.{Some, Ok, arith, refl, sym, inl, rules, decimal}
use Rattle.std.specs.Prelude.{All}
use Rattle.std.specs.List.{list_all}
use Rattle.std.specs.Str.{is_utf8}
use Rattle.std.specs.Char.{is_ascii_digit, to_ascii_lowercase}
use Rattle.std.specs.Int.{w128, to_be_bytes, from_be_bytes, bytes_high_first}
use Rattle.std.specs.Str.Parse.{digits_value}
use Rattle.std.proofs.lemmas.Bool.{and_parts}
use Rattle.std.proofs.lemmas.Bool.Decides.{nat_tests}
use Rattle.std.proofs.lemmas.List.Elements.{All-nil, All-cons}
use Rattle.std.proofs.lemmas.Str.{is_utf8-from_IsUtf8, IsUtf8-from_ascii}
use Rattle.std.proofs.lemmas.Str.Parse.{IsNumeralModel, numerals_by_value}
use Rattle.std.proofs.lemmas.Fmt.{digits_decimal, digits_value-decimal, length-decimal-le, decimal_nonempty}
use Rattle.uuid.specs.Text.{lower, hyphenated_text, parsed}
use Rattle.uuid.proofs.TextLemmas.{hyphenated_ascii}
use Rattle.uuid.proofs.RoundTrips.{parses_hyphenated}
use Rattle.sx_text.specs.Digits.{digits_text}
use Rattle.sx_text.specs.Escapes.{Chars, IsWhole}
use Rattle.sx_text.proofs.Utf8.{whole_utf8}
use Rattle.sx_base.specs.Moment.{Day, TimeOfDay, Fields, day_text, time_text, fields_text, fields_at_moment, moment_text, IsWritten}
use Rattle.sx_lease.specs.declared.lease.LeaseId.{LeaseId}
use Rattle.sx_names.specs.Limits.{IsPageSize}
use Rattle.sx_call.specs.FieldLimits.{IsLeaseId}
use Rattle.sx_decode.specs.Numbers.{number_of}
use Rattle.sx_decode.specs.Moments.{moment_of}
use Rattle.sx_decode.specs.Leases.{lease_id_of}
use Rattle.sx_decode.specs.Words.{is_word}
use Rattle.sx_decode.proofs.MomentTexts.{moment_is}
use Rattle.sx_heads.specs.Values.{id_text}

-- ---- ASCII

abbrev pub AreAscii : List ℕ → Type 0
AreAscii [] = Unit {0}
AreAscii (b ∷ bs) = (b < 128) × AreAscii bs

ascii_whole : (bytes : List ℕ) → AreAscii bytes → IsWhole bytes
unfolding Chars
ascii_whole [] h = tt
ascii_whole (b ∷ bs) h = inl (h.0, ascii_whole bs h.1)

pub ascii_utf8 : (bytes : List ℕ) → AreAscii bytes → is_utf8 bytes ≡ true
ascii_utf8 bytes h = whole_utf8 bytes (ascii_whole bytes h)

pub ascii_both : (xs ys : List ℕ) → AreAscii xs → AreAscii ys → AreAscii (xs ++ ys)
ascii_both [] ys p q = q
ascii_both (x ∷ xs) ys p q = (p.0, ascii_both xs ys p.1 q)

low_text : (bytes : List ℕ) → list_all (λ b. nat_lt b 128) bytes ≡ true → AreAscii bytes
low_text [] e = tt
low_text (b ∷ bs) e =
    let both = and_parts (nat_lt b 128) (list_all (λ x. nat_lt x 128) bs) e in
    (low_byte_of b both.0, low_text bs both.1)
  where
    low_byte_of : (x : ℕ) → nat_lt x 128 ≡ true → x < 128
    low_byte_of x h = grind (arith, nat_tests, h)

-- a text that is tested to be ASCII
pub plain_utf8 : (bytes : List ℕ) → list_all (λ b. nat_lt b 128) bytes ≡ true → is_utf8 bytes ≡ true
plain_utf8 bytes e = ascii_utf8 bytes (low_text bytes e)

-- ---- decimal numbers

own : IsNumeralModel (λ ds. list_all is_ascii_digit ds ≡ true) (digits_value 10)
own = numerals_by_value _ (search rules)

pub decimal_digits : (n : ℕ) → n < 2 ^ 64 → list_all is_ascii_digit (decimal n) ≡ true
decimal_digits n lt = digits_decimal own n lt

pub number_back : (n : ℕ) → n < 2 ^ 64 → number_of (decimal n) ≡ Some n
unfolding number_of
number_back n lt =
    let a : list_all is_ascii_digit (decimal n) ≡ true = digits_decimal own n lt in
    let b : digits_value 10 (decimal n) ≡ n = digits_value-decimal own n lt in
    let l : length (decimal n) ≤ 20 = length-decimal-le 20 n (omega arith) (omega (arith, lt)) lt in
    let z = decimal_nonempty n lt in
    let e : nat_eq (length (decimal n)) 0 ≡ false = grind (arith, z) in
    let f : nat_lt 20 (length (decimal n)) ≡ false = grind (arith, l) in
    rw (e, f, a, b) refl

digit_other : (b c : ℕ) → is_ascii_digit b ≡ true → is_ascii_digit c ≡ false → (b == c) ≡ false
digit_other b c e f = grind (arith, nat_tests, e, f)

digit_low : (b : ℕ) → is_ascii_digit b ≡ true → b < 128
digit_low b e = grind (arith, nat_tests, e)

pub digits_lack : (c : ℕ) (ds : List ℕ) → is_ascii_digit c ≡ false → list_all is_ascii_digit ds ≡ true → All (λ b. (b == c) ≡ false) ds
digits_lack c [] e h = All-nil (λ b. (b == c) ≡ false)
digits_lack c (d ∷ ds) e h =
    let both = and_parts (is_ascii_digit d) (list_all is_ascii_digit ds) h in
    All-cons (λ b. (b == c) ≡ false) d ds (digit_other d c both.0 e) (digits_lack c ds e both.1)

digits_ascii : (ds : List ℕ) → list_all is_ascii_digit ds ≡ true → AreAscii ds
digits_ascii [] h = tt
digits_ascii (d ∷ ds) h =
    let both = and_parts (is_ascii_digit d) (list_all is_ascii_digit ds) h in
    (digit_low d both.0, digits_ascii ds both.1)

pub decimal_ascii : (n : ℕ) → n < 2 ^ 64 → AreAscii (decimal n)
decimal_ascii n lt = digits_ascii (decimal n) (decimal_digits n lt)

page_fits : (n : ℕ) → IsPageSize n → n < 2 ^ 64
page_fits n h = let high = h.most in omega (arith, high)

pub decimal_utf8 : (n : ℕ) → IsPageSize n → is_utf8 (decimal n) ≡ true
decimal_utf8 n h = ascii_utf8 (decimal n) (decimal_ascii n (page_fits n h))

-- a text that begins with a digit isn't one that begins otherwise
digits_first : (ds more : List ℕ) (c : ℕ) (rest : List ℕ) → list_all is_ascii_digit ds ≡ true → 0 < length ds → is_ascii_digit c ≡ false → bytes_eq (ds ++ more) (c ∷ rest) ≡ false
digits_first [] more c rest h some e = absurd (omega (arith, some))
digits_first (d ∷ ds) more c rest h some e =
    let both = and_parts (is_ascii_digit d) (list_all is_ascii_digit ds) h in
    rw (digit_other d c both.0 e) refl

pub decimal_first : (n : ℕ) (more : List ℕ) (c : ℕ) (rest : List ℕ) → n < 2 ^ 64 → is_ascii_digit c ≡ false → bytes_eq (decimal n ++ more) (c ∷ rest) ≡ false
decimal_first n more c rest lt e =
    let z = decimal_nonempty n lt in
    digits_first (decimal n) more c rest (decimal_digits n lt) (omega (arith, z)) e

-- ---- moments

ascii_digits : (count n : ℕ) → AreAscii (digits_text count n)
ascii_digits zero n = tt
ascii_digits (suc count) n = ascii_both (digits_text count (n / 10)) ((48 + n % 10) ∷ []) (ascii_digits count (n / 10)) (omega arith, tt)

behind : (b count n : ℕ) → b < 128 → AreAscii (b ∷ digits_text count n)
behind b count n lt = (lt, ascii_digits count n)

ascii_day : (d : Day) → AreAscii (day_text d)
ascii_day d =
    ascii_both (digits_text 4 d.0) ((45 ∷ digits_text 2 d.1.0) ++ 45 ∷ digits_text 2 d.1.1) (ascii_digits 4 d.0)
    (ascii_both (45 ∷ digits_text 2 d.1.0) (45 ∷ digits_text 2 d.1.1) (behind 45 2 d.1.0 (omega arith)) (behind 45 2 d.1.1 (omega arith)))

ascii_clock : (b : ℕ) (t : TimeOfDay) → b < 128 → AreAscii (time_text (b ∷ []) t)
ascii_clock b t lt =
    ascii_both (b ∷ digits_text 2 t.0) ((58 ∷ digits_text 2 t.1.0) ++ 58 ∷ digits_text 2 t.1.1) (behind b 2 t.0 lt)
    (ascii_both (58 ∷ digits_text 2 t.1.0) (58 ∷ digits_text 2 t.1.1) (behind 58 2 t.1.0 (omega arith)) (behind 58 2 t.1.1 (omega arith)))

ascii_fields : (m : Fields) → AreAscii (fields_text m)
unfolding fields_text
ascii_fields m =
    ascii_both (day_text m.0) (time_text (codes "T") m.1.0 ++ ((46 ∷ digits_text 7 m.1.1) ++ 90 ∷ [])) (ascii_day m.0)
    (ascii_both (time_text (codes "T") m.1.0) ((46 ∷ digits_text 7 m.1.1) ++ 90 ∷ []) (ascii_clock 84 m.1.0 (omega arith))
    (ascii_both (46 ∷ digits_text 7 m.1.1) (90 ∷ []) (behind 46 7 m.1.1 (omega arith)) (omega arith, tt)))

pub moment_ascii : (at : ℕ) → AreAscii (moment_text at)
unfolding moment_text
moment_ascii at = ascii_fields (fields_at_moment at)

pub moment_back : (at : ℕ) → IsWritten at → moment_of (moment_text at) ≡ Some at
moment_back at le = moment_is (moment_text at) (Ok at) (le, refl)

digit_unlike : (n c : ℕ) → nat_lt c 58 ≡ false → (to_ascii_lowercase (48 + n % 10) == c) ≡ false
digit_unlike n c e = grind (arith, nat_tests, e)

-- a moment is no word
fields_unlike : (m : Fields) (c : ℕ) (word : List ℕ) → nat_lt c 58 ≡ false → bytes_eq (map to_ascii_lowercase (fields_text m)) (c ∷ word) ≡ false
unfolding fields_text
fields_unlike m c word e = rw (digit_unlike (m.0.0 / 10 / 10 / 10) c e) refl

pub moment_no_now : (at : ℕ) → is_word (codes "now") (moment_text at) ≡ false
unfolding is_word moment_text
moment_no_now at = fields_unlike (fields_at_moment at) 110 (codes "ow") refl

pub moment_no_preserve : (at : ℕ) → is_word (codes "preserve") (moment_text at) ≡ false
unfolding is_word moment_text
moment_no_preserve at = fields_unlike (fields_at_moment at) 112 (codes "reserve") refl

-- ---- lease ids

byte_and_rest : (n p : ℕ) → n / p ≡ n / p % 256 + n / (p * 256) * 256
byte_and_rest n p = omega (arith, nat.div-div-eq-div-mul n p 256)

-- the digits of a number to the base 256, put together two times eight
joined_8 : (a b c d e f g h n p q r s t u v w : ℕ) → n ≡ a + p * 256 → p ≡ b + q * 256 → q ≡ c + r * 256 → r ≡ d + s * 256
    → s ≡ e + t * 256 → t ≡ f + u * 256 → u ≡ g + v * 256 → v ≡ h + w * 256
    → a + b * 256 + c * 65536 + d * 16777216 + e * 4294967296 + f * 1099511627776 + g * 281474976710656 + h * 72057594037927936 + w * 18446744073709551616 ≡ n
joined_8 a b c d e f g h n p q r s t u v w at_0 at_1 at_2 at_3 at_4 at_5 at_6 at_7 = omega arith

joined_16 : (a0 a1 a2 a3 a4 a5 a6 a7 a8 a9 a10 a11 a12 a13 a14 a15 n w : ℕ) → a0 + a1 * 256 + a2 * 65536 + a3 * 16777216 + a4 * 4294967296 + a5 * 1099511627776 + a6 * 281474976710656 + a7 * 72057594037927936 + w * 18446744073709551616 ≡ n → a8 + a9 * 256 + a10 * 65536 + a11 * 16777216 + a12 * 4294967296 + a13 * 1099511627776 + a14 * 281474976710656 + a15 * 72057594037927936 ≡ w
    → a15 * 1329227995784915872903807060280344576 + a14 * 5192296858534827628530496329220096 + a13 * 20282409603651670423947251286016 + a12 * 79228162514264337593543950336 + a11 * 309485009821345068724781056 + a10 * 1208925819614629174706176 + a9 * 4722366482869645213696 + a8 * 18446744073709551616 + a7 * 72057594037927936 + a6 * 281474976710656 + a5 * 1099511627776 + a4 * 4294967296 + a3 * 16777216 + a2 * 65536 + a1 * 256 + a0 ≡ n
joined_16 a0 a1 a2 a3 a4 a5 a6 a7 a8 a9 a10 a11 a12 a13 a14 a15 n w low high = omega arith

no_rest : (n : ℕ) → n < 2 ^ 128 → n / 340282366920938463463374607431768211456 ≡ 0
no_rest n lt = omega (arith, lt)

-- a number of 128 bits is that of its bytes
bytes_back : (n : ℕ) → n < 2 ^ 128 → from_be_bytes w128 (to_be_bytes w128 n) ≡ n
bytes_back n lt =
    let first : n ≡ n % 256 + n / 256 * 256 = omega arith in
    let low = joined_8 (n % 256) (n / 256 % 256) (n / 65536 % 256) (n / 16777216 % 256) (n / 4294967296 % 256) (n / 1099511627776 % 256) (n / 281474976710656 % 256) (n / 72057594037927936 % 256) n (n / 256) (n / 65536) (n / 16777216) (n / 4294967296) (n / 1099511627776) (n / 281474976710656) (n / 72057594037927936) (n / 18446744073709551616) first (byte_and_rest n 256) (byte_and_rest n 65536) (byte_and_rest n 16777216) (byte_and_rest n 4294967296) (byte_and_rest n 1099511627776) (byte_and_rest n 281474976710656) (byte_and_rest n 72057594037927936) in
    let high = joined_8 (n / 18446744073709551616 % 256) (n / 4722366482869645213696 % 256) (n / 1208925819614629174706176 % 256) (n / 309485009821345068724781056 % 256) (n / 79228162514264337593543950336 % 256) (n / 20282409603651670423947251286016 % 256) (n / 5192296858534827628530496329220096 % 256) (n / 1329227995784915872903807060280344576 % 256) (n / 18446744073709551616) (n / 4722366482869645213696) (n / 1208925819614629174706176) (n / 309485009821345068724781056) (n / 79228162514264337593543950336) (n / 20282409603651670423947251286016) (n / 5192296858534827628530496329220096) (n / 1329227995784915872903807060280344576) (n / 340282366920938463463374607431768211456) (byte_and_rest n 18446744073709551616) (byte_and_rest n 4722366482869645213696) (byte_and_rest n 1208925819614629174706176) (byte_and_rest n 309485009821345068724781056) (byte_and_rest n 79228162514264337593543950336) (byte_and_rest n 20282409603651670423947251286016) (byte_and_rest n 5192296858534827628530496329220096) (byte_and_rest n 1329227995784915872903807060280344576) in
    let none = no_rest n lt in
    joined_16 (n % 256) (n / 256 % 256) (n / 65536 % 256) (n / 16777216 % 256) (n / 4294967296 % 256) (n / 1099511627776 % 256) (n / 281474976710656 % 256) (n / 72057594037927936 % 256) (n / 18446744073709551616 % 256) (n / 4722366482869645213696 % 256) (n / 1208925819614629174706176 % 256) (n / 309485009821345068724781056 % 256) (n / 79228162514264337593543950336 % 256) (n / 20282409603651670423947251286016 % 256) (n / 5192296858534827628530496329220096 % 256) (n / 1329227995784915872903807060280344576 % 256) n (n / 18446744073709551616) low (omega (arith, high, none))

low_byte : (n : ℕ) → n % 256 < 256
low_byte n = omega arith

high_bytes : (k n : ℕ) → All (λ b. b < 256) (bytes_high_first k n)
high_bytes zero n = All-nil (λ b. b < 256)
high_bytes (suc zero) n = All-cons (λ b. b < 256) (n % 256) [] (low_byte n) (All-nil (λ b. b < 256))
high_bytes (suc (suc k)) n = All-cons (λ b. b < 256) (n / 256 ^ suc k % 256) (bytes_high_first (suc k) n) (low_byte (n / 256 ^ suc k)) (high_bytes (suc k) n)

id_bytes : (n : ℕ) → All (λ b. b < 256) (to_be_bytes w128 n)
id_bytes n = high_bytes 16 n

pub id_back : (id : LeaseId) → IsLeaseId id → lease_id_of (id_text id) ≡ Some id
unfolding id_text
id_back id lt =
    let text = hyphenated_text lower (to_be_bytes w128 id.0) in
    let u : is_utf8 text ≡ true = is_utf8-from_IsUtf8 text (IsUtf8-from_ascii text (hyphenated_ascii lower (to_be_bytes w128 id.0) (inl refl))) in
    let p : parsed text ≡ Some (to_be_bytes w128 id.0) = sym (parses_hyphenated lower (to_be_bytes w128 id.0) (inl refl) refl (id_bytes id.0)) in
    rw (u, p, bytes_back id.0 lt) refl
