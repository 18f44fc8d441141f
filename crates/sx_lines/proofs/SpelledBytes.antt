-- Bytes in hexadecimal digits and in percent-encoding are read back.
use Rattle.std.proofs.Common.{codes, ◌≡◌, ◌≢◌, ℕ, zero, suc, ◌+◌, ◌-◌, ◌*◌, ◌/◌, ◌%◌, ◌≤◌, ◌<◌, ◌⊎◌, Bool, true, false, cond, not, ◌&&◌, ◌||◌, ◌==◌, nat_le, nat_lt, ltb, List, [], ◌∷◌, ◌++◌, length, get_or, slice_index, map}
use Rattle.std.proofs.Common.{refl, sym, ap, subst, ◌∙◌, arith, inl, inr, Some, None, Ok, IsUtf8, encode_utf8_all, append_assoc}
use Rattle.std.specs.Char.{is_digit, encode_utf8, IsScalar}
use Rattle.std.specs.Str.{is_utf8, all_scalars}
use Rattle.std.specs.List.{list_all, list_any, range_with_len, All, AllByRecursion, flat_map}
use Rattle.std.specs.Fmt.{digit_glyph}
use lib.Utf8.{scalar_cases}
use Rattle.std.proofs.lemmas.Bool.{cond_both, ltb-true, ne_eqb, eqb-true, le-leb, lt-ltb, le-ltb, leb-true, cases_lt, cases_Bool, cases_eq, and_parts, and_from}
use Rattle.std.proofs.lemmas.Bool.Decides.{nat_tests}
use Rattle.std.proofs.lemmas.List.Sums.{AllPass-from_list_all}
use Rattle.std.proofs.lemmas.List.Folds.{list_any_none}
use Rattle.std.proofs.lemmas.Str.{IsUtf8-from_is_utf8}
use Rattle.hex.specs.Hex.{encode_lower, encode_with, lower_digits, decode_of, IsBytes}
use Rattle.hex.proofs.HexLemmas.{decode_of-encode_lower}
use Rattle.percent_encoding.specs.Percent.{percent_decode, percent_encode_byte}
use Rattle.percent_encoding.proofs.PercentLemmas.{percent_decode-nil, percent_decode_not_percent, percent_decode-percent_encode_byte}
use Rattle.sx_listing.specs.Percent.{is_unreserved, upper_digit, percent_byte, percent_text}
use Rattle.sx_lines.specs.Fields.{hex_bytes_of, is_bad_escape, has_bad_escape}
use Rattle.sx_lines.proofs.SpelledWords.{is_visible, IsWord, both_pass, all_weaker}

-- hexadecimal digits

digit_visible : (d : ℕ) → d < 16 → is_visible (slice_index lower_digits d) ≡ true
digit_visible d h = AllPass-from_list_all is_visible lower_digits refl d 0 h

pub hex_word : (bytes : List ℕ) → IsBytes bytes → IsWord (encode_lower bytes)
unfolding encode_with
hex_word [] h = refl
hex_word (b ∷ bytes) h =
    let small = h 0 in
    and_from _ _ (digit_visible (b / 16) (omega (arith, small))) (and_from _ _ (digit_visible (b % 16) (omega arith)) (hex_word bytes (λ k. h (suc k))))

pub hex_is : (bytes : List ℕ) → IsBytes bytes → hex_bytes_of (encode_lower bytes) ≡ Some bytes
hex_is bytes h = rw (decode_of-encode_lower bytes h) refl

-- percent-encoding

plain_byte : (b : ℕ) → is_unreserved b ≡ true → percent_byte b ≡ b ∷ []
unfolding percent_byte
plain_byte b e = rw e refl

escaped_byte : (b : ℕ) → is_unreserved b ≡ false → percent_byte b ≡ 37 ∷ upper_digit (b / 16) ∷ upper_digit (b % 16) ∷ []
unfolding percent_byte
escaped_byte b e = rw e refl

unreserved_not_percent : (b : ℕ) → is_unreserved b ≡ true → b ≢ 37
unreserved_not_percent b e q = grind (arith, nat_tests)

upper_is : (d : ℕ) → d < 16 → (48 ≤ upper_digit d) × (upper_digit d ≤ 70) × (is_digit (upper_digit d) 16 ≡ true)
upper_is d h = (grind (arith, nat_tests), grind (arith, nat_tests), grind (arith, nat_tests))

pub byte_some : (b : ℕ) → 0 < length (percent_byte b)
byte_some b = elim (cases_Bool (is_unreserved b)) [ inl e ↦ rw (plain_byte b e) (omega arith) | inr e ↦ rw (escaped_byte b e) (omega arith) ]

-- a byte of a text in percent-encoding
abbrev pub is_encoded : ℕ → Bool
is_encoded b = is_unreserved b || b == 37

upper_encoded : (d : ℕ) → d < 16 → is_encoded (upper_digit d) ≡ true
upper_encoded d h = grind (arith, nat_tests)

unreserved_encoded : (b : ℕ) → is_unreserved b ≡ true → is_encoded b ≡ true
unreserved_encoded b e = rw e refl

byte_encoded : (b : ℕ) → b < 256 → list_all is_encoded (percent_byte b) ≡ true
byte_encoded b h = elim (cases_Bool (is_unreserved b)) [
  | inl e ↦ rw (plain_byte b e) (and_from (is_encoded b) true (unreserved_encoded b e) refl)
  | inr e ↦ rw (escaped_byte b e) (and_from (is_encoded (upper_digit (b / 16))) _ (upper_encoded (b / 16) (omega (arith, h)))
      (and_from (is_encoded (upper_digit (b % 16))) true (upper_encoded (b % 16) (omega arith)) refl))
]

pub percent_encoded : (bytes : List ℕ) → IsBytes bytes → list_all is_encoded (percent_text bytes) ≡ true
percent_encoded [] h = refl
percent_encoded (b ∷ bytes) h = both_pass is_encoded (percent_byte b) (percent_text bytes) (byte_encoded b (h 0)) (percent_encoded bytes (λ k. h (suc k)))

encoded_visible : (b : ℕ) → is_encoded b ≡ true → is_visible b ≡ true
encoded_visible b e = grind (arith, nat_tests)

pub encoded_word : (w : List ℕ) → list_all is_encoded w ≡ true → IsWord w
encoded_word = all_weaker is_encoded is_visible encoded_visible

upper_not_percent : (d : ℕ) → d < 16 → upper_digit d ≢ 37
upper_not_percent d h q = let u = upper_is d h in omega (arith, q, u.0)

-- no percent sign stands without its two digits

not_bad : (b c d : ℕ) → b ≢ 37 → (b == 37 && not (is_digit c 16 && is_digit d 16)) ≡ false
not_bad b c d h = rw (ne_eqb b 37 h) refl

good : (c d : ℕ) → is_digit c 16 ≡ true → is_digit d 16 ≡ true → not (is_digit c 16 && is_digit d 16) ≡ false
good c d h k = rw (h, k) refl

shifted : (b : ℕ) (w : List ℕ) (k : ℕ) → is_bad_escape (b ∷ w) (suc k) ≡ is_bad_escape w k
shifted b w k =
    let one : suc k + 1 ≡ suc (k + 1) = omega arith in
    let two : suc k + 2 ≡ suc (k + 2) = omega arith in
    rw (one, two) refl

plain_good : (b : ℕ) (w : List ℕ) → b ≢ 37 → ((k : ℕ) → is_bad_escape w k ≡ false) → (k : ℕ) → is_bad_escape (b ∷ w) k ≡ false
plain_good b w h rest zero = not_bad b (slice_index (b ∷ w) (0 + 1)) (slice_index (b ∷ w) (0 + 2)) h
plain_good b w h rest (suc k) = shifted b w k ∙ rest k

escape_good : (c d : ℕ) (w : List ℕ) → c < 16 → d < 16 → ((k : ℕ) → is_bad_escape w k ≡ false)
    → (k : ℕ) → is_bad_escape (37 ∷ upper_digit c ∷ upper_digit d ∷ w) k ≡ false
escape_good c d w hc hd rest zero = good (upper_digit c) (upper_digit d) (upper_is c hc).2 (upper_is d hd).2
escape_good c d w hc hd rest (suc k) =
    shifted 37 (upper_digit c ∷ upper_digit d ∷ w) k
    ∙ plain_good (upper_digit c) (upper_digit d ∷ w) (upper_not_percent c hc)
    (plain_good (upper_digit d) w (upper_not_percent d hd) rest) k

no_bad : (bytes : List ℕ) → IsBytes bytes → (k : ℕ) → is_bad_escape (percent_text bytes) k ≡ false
no_bad [] h k = refl
no_bad (b ∷ bytes) h k =
    let small = h 0 in
    let rest = no_bad bytes (λ j. h (suc j)) in
    elim (cases_Bool (is_unreserved b)) [
      | inl e ↦ subst (λ (w : List ℕ). is_bad_escape (w ++ percent_text bytes) k ≡ false) (sym (plain_byte b e))
          (plain_good b (percent_text bytes) (unreserved_not_percent b e) rest k)
      | inr e ↦ subst (λ (w : List ℕ). is_bad_escape (w ++ percent_text bytes) k ≡ false) (sym (escaped_byte b e))
          (escape_good (b / 16) (b % 16) (percent_text bytes) (omega (arith, small)) (omega arith) rest k)
    ]

pub escapes_good : (bytes : List ℕ) → IsBytes bytes → has_bad_escape (percent_text bytes) ≡ false
escapes_good bytes h = list_any_none (is_bad_escape (percent_text bytes)) _ (λ i d l. no_bad bytes h _)

-- what is encoded is decoded

same_digit : (d : ℕ) → upper_digit d ≡ digit_glyph true d
same_digit d = refl

encoded_byte : (b : ℕ) → b < 256 → is_unreserved b ≡ false → percent_byte b ≡ percent_encode_byte b
unfolding percent_encode_byte
encoded_byte b h e =
    let same : b / 16 ≡ b / 16 % 16 = omega (arith, h) in
    escaped_byte b e ∙ ap (λ (n : ℕ). 37 ∷ upper_digit n ∷ upper_digit (b % 16) ∷ []) same

pub percent_is : (bytes : List ℕ) → IsBytes bytes → percent_decode (percent_text bytes) ≡ bytes
percent_is [] h = percent_decode-nil
percent_is (b ∷ bytes) h =
    let rest = ap (λ (x : List ℕ). b ∷ x) (percent_is bytes (λ k. h (suc k))) in
    elim (cases_Bool (is_unreserved b)) [
      | inl e ↦ ap (λ (w : List ℕ). percent_decode (w ++ percent_text bytes)) (plain_byte b e)
          ∙ percent_decode_not_percent b (percent_text bytes) (unreserved_not_percent b e) ∙ rest
      | inr e ↦ ap (λ (w : List ℕ). percent_decode (w ++ percent_text bytes)) (encoded_byte b (h 0) e)
          ∙ percent_decode-percent_encode_byte b (percent_text bytes) (h 0) ∙ rest
    ]

-- a text's bytes are below 256

bytes_append : (xs ys : List ℕ) → IsBytes xs → IsBytes ys → IsBytes (xs ++ ys)
bytes_append [] ys h k i = k i
bytes_append (x ∷ xs) ys h k zero = h 0
bytes_append (x ∷ xs) ys h k (suc i) = bytes_append xs ys (λ j. h (suc j)) k i

bytes_cons : (b : ℕ) (bs : List ℕ) → b < 256 → IsBytes bs → IsBytes (b ∷ bs)
bytes_cons b bs h k zero = h
bytes_cons b bs h k (suc i) = k i

no_bytes : IsBytes []
no_bytes i = omega arith

last : (c : ℕ) → IsBytes ((128 + c % 64) ∷ [])
last c = bytes_cons (128 + c % 64) [] (omega arith) no_bytes

last_two : (c : ℕ) → IsBytes ((128 + c / 64 % 64) ∷ (128 + c % 64) ∷ [])
last_two c = bytes_cons (128 + c / 64 % 64) ((128 + c % 64) ∷ []) (omega arith) (last c)

last_three : (c : ℕ) → IsBytes ((128 + c / 4096 % 64) ∷ (128 + c / 64 % 64) ∷ (128 + c % 64) ∷ [])
last_three c = bytes_cons (128 + c / 4096 % 64) ((128 + c / 64 % 64) ∷ (128 + c % 64) ∷ []) (omega arith) (last_two c)

char_bytes : (c : ℕ) → IsScalar c → IsBytes (encode_utf8 c)
unfolding encode_utf8
char_bytes c h =
    let top : c < 1114112 = elim (scalar_cases c h) [ inl low ↦ omega (arith, low) | inr high ↦ high.1 ] in
    cond_both (ltb c 128) _ _ IsBytes
    (λ e. let l = ltb-true c 128 e in bytes_cons c [] (omega (arith, l)) no_bytes)
    (λ e1. cond_both (ltb c 2048) _ _ IsBytes
    (λ e. let l = ltb-true c 2048 e in bytes_cons (192 + c / 64) ((128 + c % 64) ∷ []) (omega (arith, l)) (last c))
    (λ e2. cond_both (ltb c 65536) _ _ IsBytes
    (λ e. let l = ltb-true c 65536 e in bytes_cons (224 + c / 4096) ((128 + c / 64 % 64) ∷ (128 + c % 64) ∷ []) (omega (arith, l)) (last_two c))
    (λ e3. bytes_cons (240 + c / 262144) ((128 + c / 4096 % 64) ∷ (128 + c / 64 % 64) ∷ (128 + c % 64) ∷ []) (omega (arith, top)) (last_three c))))

chars_bytes : (cs : List ℕ) → all_scalars cs ≡ true → IsBytes (encode_utf8_all cs)
chars_bytes [] h = no_bytes
chars_bytes (c ∷ cs) h =
    let parts = and_parts _ (all_scalars cs) h in
    bytes_append (encode_utf8 c) (encode_utf8_all cs) (char_bytes c parts.0) (chars_bytes cs parts.1)

pub utf8_bytes : (bytes : List ℕ) → is_utf8 bytes ≡ true → IsBytes bytes
utf8_bytes bytes h =
    let u = IsUtf8-from_is_utf8 bytes h in
    subst IsBytes u.1.1 (chars_bytes u.0 u.1.0)
