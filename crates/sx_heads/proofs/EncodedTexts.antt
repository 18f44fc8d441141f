-- Texts that were percent-encoded are read back.
use Rattle.std.proofs.Common.{◌≡◌, ◌<◌, ℕ, zero, suc, ◌+◌, ◌/◌, ◌%◌, ◌==◌, Bool, true, false, List, [], ◌∷◌, length, Some, None}
use Rattle.std.proofs.Common.{arith, subst, refl, sym, ◌∙◌, inl, inr, cond, leb, ltb, ◌&&◌, encode_utf8_all}
use Rattle.std.specs.Prelude.{All}
use Rattle.std.proofs.lemmas.Bool.{false≢true, cases_lt, ltb-true, lt-ltb, le-ltb, and_parts}
use Rattle.std.proofs.lemmas.List.Elements.{All-head, All-tail, All-nil, All-cons, All-append}
use Rattle.std.proofs.lemmas.Str.{IsUtf8-from_is_utf8, is_utf8-from_IsUtf8, IsUtf8-from_ascii}
use Rattle.std.proofs.lemmas.Bool.Decides.{nat_tests}
use Rattle.std.specs.List.{find, range_with_len}
use Rattle.std.specs.Char.{is_digit, encode_utf8, IsScalar}
use Rattle.std.specs.Fmt.{digit_glyph}
use Rattle.std.specs.Str.{is_utf8, all_scalars}
use Rattle.percent_encoding.specs.declared.ascii_set.AsciiSet.{AsciiSet}
use Rattle.percent_encoding.specs.AsciiSet.{should_percent_encode}
use Rattle.percent_encoding.specs.Percent.{percent_encode, percent_encode_byte, percent_decode}
use Rattle.percent_encoding.proofs.PercentLemmas.{IsByte, IsEscapeByte, percent_encode-nil, percent_encode_escaped, percent_encode_kept, round_trip, All-percent_encode, IsAscii-percent_encode}
use Rattle.sx_decode.specs.Escapes.{is_bad_at, first_bad, decoded_text}
use Rattle.sx_heads.specs.declared.escapes.TheConstants.{PLAIN}
use Rattle.sx_heads.specs.Values.{escaped}

-- no place of the text has a bad escape
abbrev pub IsFine : List ℕ → Type 0
IsFine xs = (k : ℕ) → is_bad_at xs k ≡ false

bad_after : (b : ℕ) (xs : List ℕ) (k : ℕ) → is_bad_at (b ∷ xs) (suc k) ≡ is_bad_at xs k
bad_after b xs k =
    let one : suc k + 1 ≡ suc (k + 1) = omega arith in
    let two : suc k + 2 ≡ suc (k + 2) = omega arith in
    rw (one, two) refl

fine_plain : (b : ℕ) (xs : List ℕ) → (b == 37) ≡ false → IsFine xs → IsFine (b ∷ xs)
fine_plain b xs e f zero = rw e refl
fine_plain b xs e f (suc k) = bad_after b xs k ∙ f k

fine_escape : (h l : ℕ) (xs : List ℕ) → is_digit h 16 ≡ true → is_digit l 16 ≡ true → (h == 37) ≡ false → (l == 37) ≡ false → IsFine xs → IsFine (37 ∷ h ∷ l ∷ xs)
fine_escape h l xs dh dl eh el f zero = rw (dh, dl) refl
fine_escape h l xs dh dl eh el f (suc k) = bad_after 37 (h ∷ l ∷ xs) k ∙ fine_plain h (l ∷ xs) eh (fine_plain l xs el f) k

glyph_is : (n : ℕ) → n < 16 → (is_digit (digit_glyph true n) 16 ≡ true) × ((digit_glyph true n == 37) ≡ false)
glyph_is n lt = (grind (arith, nat_tests), grind (arith, nat_tests))

pub apart_from : (b c : ℕ) → (b ≡ c → ⊥) → (b == c) ≡ false
apart_from b c h = grind (arith, h)

pub not_both : (t : Bool) → t ≡ true → t ≡ false → ⊥
not_both true e f = absurd (false≢true (sym f))
not_both false e f = absurd (false≢true e)

fine_more : (set : AsciiSet) (b : ℕ) (bs : List ℕ) (t : Bool) → should_percent_encode set b ≡ t → should_percent_encode set 37 ≡ true → b < 256 → IsFine (percent_encode set bs) → IsFine (percent_encode set (b ∷ bs))
unfolding percent_encode_byte
fine_more set b bs true e p lt f =
    let h = glyph_is (b / 16 % 16) (omega arith) in
    let l = glyph_is (b % 16) (omega arith) in
    rw (percent_encode_escaped set b bs e) (fine_escape (digit_glyph true (b / 16 % 16)) (digit_glyph true (b % 16)) (percent_encode set bs) h.0 l.0 h.1 l.1 f)
fine_more set b bs false e p lt f =
    let n = apart_from b 37 (λ is. not_both (should_percent_encode set 37) p (subst (λ (x : ℕ). should_percent_encode set x ≡ false) is e)) in
    rw (percent_encode_kept set b bs e) (fine_plain b (percent_encode set bs) n f)

-- each is a byte
abbrev pub AreBytes : List ℕ → Type 0
AreBytes bs = All IsByte bs

fine_encoded : (set : AsciiSet) (bs : List ℕ) → should_percent_encode set 37 ≡ true → AreBytes bs → IsFine (percent_encode set bs)
fine_encoded set [] p small = rw (percent_encode-nil set) (λ k. refl)
fine_encoded set (b ∷ bs) p small = fine_more set b bs (should_percent_encode set b) refl p (All-head IsByte b bs small) (fine_encoded set bs p (All-tail IsByte b bs small))

none_in : (p : ℕ → Bool) → ((k : ℕ) → p k ≡ false) → (n a : ℕ) → find p (range_with_len a n) ≡ None
none_in p h zero a = refl
none_in p h (suc n) a = rw (h a) (none_in p h n (a + 1))

plain_percent : should_percent_encode PLAIN 37 ≡ true
unfolding should_percent_encode
plain_percent = refl

pub plain_slash : should_percent_encode PLAIN 47 ≡ true
unfolding should_percent_encode
plain_slash = refl

pub plain_question : should_percent_encode PLAIN 63 ≡ true
unfolding should_percent_encode
plain_question = refl

pub plain_and : should_percent_encode PLAIN 38 ≡ true
unfolding should_percent_encode
plain_and = refl

-- no escape is bad
pub no_bad : (bs : List ℕ) → AreBytes bs → first_bad (escaped bs) ≡ None
no_bad bs small = none_in (is_bad_at (escaped bs)) (fine_encoded PLAIN bs plain_percent small) (length (escaped bs)) 0

pub decoded_back : (bs : List ℕ) → AreBytes bs → percent_decode (escaped bs) ≡ bs
decoded_back bs small = round_trip PLAIN bs refl small

scalar_most : (n : ℕ) → IsScalar n → n < 1114112
scalar_most n scalar = elim (cases_lt n 55296) [
  | inl lt ↦ omega (arith, lt)
  | inr ge ↦ ltb-true n 1114112 (and_parts (leb 57344 n) (ltb n 1114112) (rw (le-ltb n 55296 ge) at scalar)).1
]

abbrev scalar_of : ℕ → Bool
scalar_of c = cond (ltb c 55296) true (leb 57344 c && ltb c 1114112)

next_byte : (n : ℕ) → 128 + n % 64 < 256
next_byte n = omega arith

one_byte : {a : ℕ} → a < 256 → AreBytes (a ∷ [])
one_byte {a} p = All-cons IsByte a [] p (All-nil IsByte)

more_bytes : (a : ℕ) (bs : List ℕ) → a < 256 → AreBytes bs → AreBytes (a ∷ bs)
more_bytes a bs p ps = All-cons IsByte a bs p ps

abbrev last_byte : ℕ → List ℕ
last_byte c = (128 + c % 64) ∷ []

abbrev last_two : ℕ → List ℕ
last_two c = (128 + c / 64 % 64) ∷ last_byte c

two_bytes : (c : ℕ) → AreBytes (last_two c)
two_bytes c = more_bytes (128 + c / 64 % 64) (last_byte c) (next_byte (c / 64)) (one_byte (next_byte c))

high_two : (c : ℕ) → c < 2048 → 192 + c / 64 < 256
high_two c lt = omega (arith, lt)

high_three : (c : ℕ) → c < 65536 → 224 + c / 4096 < 256
high_three c lt = omega (arith, lt)

high_four : (c : ℕ) → c < 1114112 → 240 + c / 262144 < 256
high_four c lt = omega (arith, lt)

char_bytes : (c : ℕ) → c < 1114112 → AreBytes (encode_utf8 c)
unfolding encode_utf8
char_bytes c most = elim (cases_lt c 128) [
  | inl one ↦ rw (lt-ltb c 128 one) (one_byte (omega (arith, one)))
  | inr more ↦ elim (cases_lt c 2048) [
    | inl two ↦ rw (le-ltb c 128 more, lt-ltb c 2048 two) (more_bytes (192 + c / 64) (last_byte c) (high_two c two) (one_byte (next_byte c)))
    | inr even ↦ elim (cases_lt c 65536) [
      | inl three ↦ rw (le-ltb c 128 more, le-ltb c 2048 even, lt-ltb c 65536 three) (more_bytes (224 + c / 4096) (last_two c) (high_three c three) (two_bytes c))
      | inr four ↦ rw (le-ltb c 128 more, le-ltb c 2048 even, le-ltb c 65536 four) (more_bytes (240 + c / 262144) ((128 + c / 4096 % 64) ∷ last_two c) (high_four c most) (more_bytes (128 + c / 4096 % 64) (last_two c) (next_byte (c / 4096)) (two_bytes c)))
    ]
  ]
]

all_bytes : (cs : List ℕ) → all_scalars cs ≡ true → AreBytes (encode_utf8_all cs)
all_bytes [] h = All-nil IsByte
all_bytes (c ∷ cs) h =
    let both = and_parts (scalar_of c) (all_scalars cs) h in
    All-append IsByte (encode_utf8 c) (encode_utf8_all cs) (char_bytes c (scalar_most c both.0)) (all_bytes cs both.1)

-- texts are bytes
pub utf8_bytes : (bs : List ℕ) → is_utf8 bs ≡ true → AreBytes bs
utf8_bytes bs h = let u = IsUtf8-from_is_utf8 bs h in subst AreBytes u.1.1 (all_bytes u.0 u.1.0)

-- a text that was encoded is decoded
pub text_back : (bs : List ℕ) → is_utf8 bs ≡ true → decoded_text (escaped bs) ≡ Some bs
unfolding decoded_text
text_back bs e =
    let small = utf8_bytes bs e in
    rw (no_bad bs small, decoded_back bs small, e) refl

-- no byte of an encoded text is this one, where it is escaped and is no byte of an escape
lacks : (c : ℕ) (bs : List ℕ) → should_percent_encode PLAIN c ≡ true → (IsEscapeByte c → ⊥) → All (λ b. (b == c) ≡ false) (escaped bs)
lacks c bs e other = All-percent_encode (λ b. (b == c) ≡ false) PLAIN bs
    (λ b kept. apart_from b c (λ is. not_both (should_percent_encode PLAIN c) e (subst (λ (x : ℕ). should_percent_encode PLAIN x ≡ false) is kept)))
    (λ b esc. apart_from b c (λ is. other (subst (λ (x : ℕ). IsEscapeByte x) is esc)))

no_slash_byte : IsEscapeByte 47 → ⊥
no_slash_byte h = grind (arith, h)

no_question_byte : IsEscapeByte 63 → ⊥
no_question_byte h = grind (arith, h)

no_and_byte : IsEscapeByte 38 → ⊥
no_and_byte h = grind (arith, h)

pub lacks_slash : (bs : List ℕ) → All (λ b. (b == 47) ≡ false) (escaped bs)
lacks_slash bs = lacks 47 bs plain_slash no_slash_byte

pub lacks_question : (bs : List ℕ) → All (λ b. (b == 63) ≡ false) (escaped bs)
lacks_question bs = lacks 63 bs plain_question no_question_byte

pub lacks_and : (bs : List ℕ) → All (λ b. (b == 38) ≡ false) (escaped bs)
lacks_and bs = lacks 38 bs plain_and no_and_byte

-- an encoded text is a text
pub escaped_utf8 : (bs : List ℕ) → is_utf8 (escaped bs) ≡ true
escaped_utf8 bs = is_utf8-from_IsUtf8 (escaped bs) (IsUtf8-from_ascii (escaped bs) (IsAscii-percent_encode PLAIN bs))
