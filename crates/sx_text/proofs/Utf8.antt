-- Whole characters by their bytes are std's UTF-8.
use Rattle.std.proofs.Common.{◌≡◌, ℕ, zero, suc, ◌+◌, ◌-◌, ◌*◌, ◌/◌, ◌%◌, ◌≤◌, ◌<◌, Bool, true, cond, ◌&&◌, leb, ltb, List, [], ◌∷◌, ◌++◌, length}
use Rattle.std.proofs.Common.{Some, None, refl, sym, ap, subst, ◌∙◌, arith, inl, inr, IsUtf8, encode_utf8_all}
use Rattle.std.specs.Str.{is_utf8, all_scalars}
use Rattle.std.specs.Char.{encode_utf8, IsScalar}
use Rattle.std.proofs.lemmas.Str.{IsUtf8-append, IsUtf8-nil, IsUtf8-encode, is_utf8-from_IsUtf8, IsUtf8-from_is_utf8}
use Rattle.std.proofs.lemmas.Bool.{cases_eq, cases_lt, ne_eqb, lt-ltb, le-ltb, le-leb, lt-leb, ltb-true, and_parts}
use Rattle.sx_text.specs.declared.escaped_reader.Spot.{Spot}
use Rattle.sx_text.specs.declared.escaped_reader.Spot.TheVariants.{Between, Tail, Ampersand, WantsM, WantsP, Tee, Semi}
use Rattle.sx_text.specs.Escapes.{escape, escaped, lead_of, behind, Chars, IsWhole}
use Rattle.sx_text.proofs.EscapedTexts.{high_plain, plain, IsHigh, lead_high, behind_high}

-- characters of one to four bytes

low_scalar : (n : ℕ) → n < 55296 → IsScalar n
low_scalar n low = rw (lt-ltb n 55296 low) refl

high_scalar : (n : ℕ) → 57344 ≤ n → n < 1114112 → IsScalar n
high_scalar n low high = rw (le-ltb n 55296 (omega (arith, low)), le-leb 57344 n low, lt-ltb n 1114112 high) refl

one : (b : ℕ) → b < 128 → IsUtf8 (b ∷ [])
unfolding encode_utf8
one b low =
    let e : encode_utf8 b ≡ b ∷ [] = rw (lt-ltb b 128 low) refl in
    subst IsUtf8 e (IsUtf8-encode b (low_scalar b (omega (arith, low))))

two : (b c : ℕ) → 194 ≤ b → b < 224 → 128 ≤ c → c ≤ 191 → IsUtf8 (b ∷ c ∷ [])
unfolding encode_utf8
two b c lo hi l h =
    let n = (b - 192) * 64 + (c - 128) in
    let big : 128 ≤ n = omega (arith, lo, l) in
    let small : n < 2048 = omega (arith, hi, h) in
    let first : 192 + n / 64 ≡ b = omega (arith, lo, l, h) in
    let second : 128 + n % 64 ≡ c = omega (arith, l, h) in
    let e : encode_utf8 n ≡ b ∷ c ∷ [] = rw (le-ltb n 128 big, lt-ltb n 2048 small, first, second) refl in
    subst IsUtf8 e (IsUtf8-encode n (low_scalar n (omega (arith, small))))

three : (b c d : ℕ) → 224 ≤ b → b < 240 → 128 ≤ c → c ≤ 191 → 128 ≤ d → d ≤ 191
    → 2048 ≤ (b - 224) * 4096 + (c - 128) * 64 + (d - 128) → IsScalar ((b - 224) * 4096 + (c - 128) * 64 + (d - 128))
    → IsUtf8 (b ∷ c ∷ d ∷ [])
unfolding encode_utf8
three b c d lo hi cl ch dl dh big scalar =
    let n = (b - 224) * 4096 + (c - 128) * 64 + (d - 128) in
    let small : n < 65536 = omega (arith, lo, hi, ch, dh) in
    let first : 224 + n / 4096 ≡ b = omega (arith, lo, cl, ch, dl, dh) in
    let middle : n / 64 ≡ (b - 224) * 64 + (c - 128) = omega (arith, lo, cl, ch, dl, dh) in
    let second : 128 + n / 64 % 64 ≡ c = rw middle (omega (arith, cl, ch)) in
    let third : 128 + n % 64 ≡ d = omega (arith, dl, dh) in
    let e : encode_utf8 n ≡ b ∷ c ∷ d ∷ [] =
    rw (le-ltb n 128 (omega (arith, big)), le-ltb n 2048 big, lt-ltb n 65536 small, first, second, third) refl in
    subst IsUtf8 e (IsUtf8-encode n scalar)

four : (b c d e : ℕ) → 240 ≤ b → b ≤ 244 → 128 ≤ c → c ≤ 191 → 128 ≤ d → d ≤ 191 → 128 ≤ e → e ≤ 191
    → (b ≡ 240 → 144 ≤ c) → (b ≡ 244 → c ≤ 143) → IsUtf8 (b ∷ c ∷ d ∷ e ∷ [])
unfolding encode_utf8
four b c d e lo hi cl ch dl dh el eh least most =
    let n = (b - 240) * 262144 + (c - 128) * 4096 + (d - 128) * 64 + (e - 128) in
    let big : 65536 ≤ n = elim (cases_eq b 240) [ inl same ↦ omega (arith, same, least same, dl, el) | inr other ↦ omega (arith, other, lo) ] in
    let small : n < 1114112 = elim (cases_eq b 244) [ inl same ↦ omega (arith, same, most same, dh, eh) | inr other ↦ omega (arith, other, lo, hi, ch, dh, eh) ] in
    let first : 240 + n / 262144 ≡ b = omega (arith, lo, cl, ch, dl, dh, el, eh) in
    let upper : n / 4096 ≡ (b - 240) * 64 + (c - 128) = omega (arith, lo, cl, ch, dl, dh, el, eh) in
    let second : 128 + n / 4096 % 64 ≡ c = rw upper (omega (arith, cl, ch)) in
    let middle : n / 64 ≡ (b - 240) * 4096 + (c - 128) * 64 + (d - 128) = omega (arith, lo, cl, ch, dl, dh, el, eh) in
    let third : 128 + n / 64 % 64 ≡ d = rw middle (omega (arith, dl, dh)) in
    let last : 128 + n % 64 ≡ e = omega (arith, el, eh) in
    let same : encode_utf8 n ≡ b ∷ c ∷ d ∷ e ∷ [] =
    rw (le-ltb n 128 (omega (arith, big)), le-ltb n 2048 (omega (arith, big)), le-ltb n 65536 big, first, second, third, last) refl in
    subst IsUtf8 same (IsUtf8-encode n (high_scalar n (omega (arith, big)) small))

-- what a first byte says

lead_none : (b : ℕ) → b < 194 → lead_of b ≡ None
unfolding lead_of
lead_none b lt = rw (lt-ltb b 194 lt) refl

lead_two : (b : ℕ) → 194 ≤ b → b < 224 → lead_of b ≡ Some (Tail 128 191 0)
unfolding lead_of
lead_two b ge lt = rw (le-ltb b 194 ge, lt-ltb b 224 lt) refl

lead_224 : (b : ℕ) → b ≡ 224 → lead_of b ≡ Some (Tail 160 191 1)
unfolding lead_of
lead_224 b same = rw same refl

lead_237 : (b : ℕ) → b ≡ 237 → lead_of b ≡ Some (Tail 128 159 1)
unfolding lead_of
lead_237 b same = rw same refl

lead_three : (b : ℕ) → 224 ≤ b → b < 240 → (b ≡ 224 → ⊥) → (b ≡ 237 → ⊥) → lead_of b ≡ Some (Tail 128 191 1)
unfolding lead_of
lead_three b ge lt p q = rw (le-ltb b 194 (omega (arith, ge)), le-ltb b 224 ge, ne_eqb b 224 p, ne_eqb b 237 q, lt-ltb b 240 lt) refl

lead_240 : (b : ℕ) → b ≡ 240 → lead_of b ≡ Some (Tail 144 191 2)
unfolding lead_of
lead_240 b same = rw same refl

lead_four : (b : ℕ) → 240 ≤ b → b < 244 → (b ≡ 240 → ⊥) → lead_of b ≡ Some (Tail 128 191 2)
unfolding lead_of
lead_four b ge lt p =
    rw (
      le-ltb b 194 (omega (arith, ge)),
      le-ltb b 224 (omega (arith, ge)),
      ne_eqb b 224 (λ q. omega (arith, q, ge)),
      ne_eqb b 237 (λ q. omega (arith, q, ge)),
      le-ltb b 240 ge,
      ne_eqb b 240 p,
      lt-ltb b 244 lt,
    ) refl

lead_244 : (b : ℕ) → b ≡ 244 → lead_of b ≡ Some (Tail 128 143 2)
unfolding lead_of
lead_244 b same = rw same refl

lead_past : (b : ℕ) → 245 ≤ b → lead_of b ≡ None
unfolding lead_of
lead_past b ge =
    rw (
      le-ltb b 194 (omega (arith, ge)),
      le-ltb b 224 (omega (arith, ge)),
      ne_eqb b 224 (λ q. omega (arith, q, ge)),
      ne_eqb b 237 (λ q. omega (arith, q, ge)),
      le-ltb b 240 (omega (arith, ge)),
      ne_eqb b 240 (λ q. omega (arith, q, ge)),
      le-ltb b 244 (omega (arith, ge)),
      ne_eqb b 244 (λ q. omega (arith, q, ge)),
    ) refl

some_is : (s t : Spot) → Some s ≡ Some t → s ≡ t
some_is s t e = cc

no_lead : (b : ℕ) (s : Spot) → lead_of b ≡ None → lead_of b ≡ Some s → ⊥
no_lead b s e f = let g : None ≡ Some s = sym e ∙ f in cc

-- the spot behind a first byte
at_spot : (b : ℕ) (s t : Spot) (bs : List ℕ) → lead_of b ≡ Some t → lead_of b ≡ Some s → Chars s bs → Chars t bs
at_spot b s t bs e f h = subst (λ x. Chars x bs) (some_is s t (sym f ∙ e)) h

-- the bytes behind a first byte
first_tail : (low high more : ℕ) (bs : List ℕ) → Chars (Tail low high more) bs
    → (c : ℕ) × (cs : List ℕ) × (bs ≡ c ∷ cs) × (low ≤ c) × (c ≤ high) × Chars (behind more) cs
unfolding Chars
first_tail low high more [] h = absurd h
first_tail low high more (c ∷ cs) h = (c, cs, refl, h.0, h.1, h.2)

abbrev Rest : List ℕ → Type 0
Rest bs = (cs : List ℕ) → length cs < length bs → Chars Between cs → IsUtf8 cs

-- a character of two bytes, and what follows it
after_two : (b : ℕ) (bs : List ℕ) → 194 ≤ b → b < 224 → Chars (Tail 128 191 0) bs → Rest (b ∷ bs) → IsUtf8 (b ∷ bs)
after_two b bs lo hi h rest =
    let c = first_tail 128 191 0 bs h in
    subst (λ x. IsUtf8 (b ∷ x)) (sym c.2)
    (IsUtf8-append (b ∷ c.0 ∷ []) c.1 (two b c.0 lo hi c.3 c.4) (rest c.1 (omega (arith, ap length c.2)) c.5))

after_three : (b low high : ℕ) (bs : List ℕ) → 224 ≤ b → b < 240 → 128 ≤ low → high ≤ 191 → (b ≡ 224 → 160 ≤ low) → (b ≡ 237 → high ≤ 159)
    → Chars (Tail low high 1) bs → Rest (b ∷ bs) → IsUtf8 (b ∷ bs)
after_three b low high bs lo hi least most first last h rest =
    let c = first_tail low high 1 bs h in
    let d = first_tail 128 191 0 c.1 c.5 in
    let n = (b - 224) * 4096 + (c.0 - 128) * 64 + (d.0 - 128) in
    let big : 2048 ≤ n = elim (cases_eq b 224) [ inl same ↦ omega (arith, same, first same, c.3, d.3) | inr other ↦ omega (arith, other, lo) ] in
    let scalar : IsScalar n = elim (cases_lt b 237) [
      | inl below ↦ low_scalar n (omega (arith, below, lo, c.4, most, d.4))
      | inr above ↦ elim (cases_eq b 237) [
        | inl same ↦ low_scalar n (omega (arith, same, last same, c.4, d.4))
        | inr other ↦ high_scalar n (omega (arith, above, other)) (omega (arith, hi, lo, c.4, most, d.4))
      ]
    ] in
    subst (λ x. IsUtf8 (b ∷ x)) (sym (c.2 ∙ ap (λ x. c.0 ∷ x) d.2))
    (IsUtf8-append (b ∷ c.0 ∷ d.0 ∷ []) d.1
    (three b c.0 d.0 lo hi (omega (arith, least, c.3)) (omega (arith, most, c.4)) d.3 d.4 big scalar)
    (rest d.1 (omega (arith, ap length c.2, ap length d.2)) d.5))

after_four : (b low high : ℕ) (bs : List ℕ) → 240 ≤ b → b ≤ 244 → 128 ≤ low → high ≤ 191 → (b ≡ 240 → 144 ≤ low) → (b ≡ 244 → high ≤ 143)
    → Chars (Tail low high 2) bs → Rest (b ∷ bs) → IsUtf8 (b ∷ bs)
after_four b low high bs lo hi least most first last h rest =
    let c = first_tail low high 2 bs h in
    let d = first_tail 128 191 1 c.1 c.5 in
    let e = first_tail 128 191 0 d.1 d.5 in
    subst (λ x. IsUtf8 (b ∷ x)) (sym (c.2 ∙ ap (λ x. c.0 ∷ x) (d.2 ∙ ap (λ x. d.0 ∷ x) e.2)))
    (IsUtf8-append (b ∷ c.0 ∷ d.0 ∷ e.0 ∷ []) e.1
    (four b c.0 d.0 e.0 lo hi (omega (arith, least, c.3)) (omega (arith, most, c.4)) d.3 d.4 e.3 e.4
    (λ same. omega (arith, first same, c.3)) (λ same. omega (arith, last same, c.4)))
    (rest e.1 (omega (arith, ap length c.2, ap length d.2, ap length e.2)) e.5))

led : (b : ℕ) (s : Spot) (bs : List ℕ) → lead_of b ≡ Some s → Chars s bs → Rest (b ∷ bs) → IsUtf8 (b ∷ bs)
led b s bs e h rest = elim (cases_lt b 194) [
  | inl low ↦ absurd (no_lead b s (lead_none b low) e)
  | inr g194 ↦ elim (cases_lt b 224) [
    | inl lt ↦ after_two b bs g194 lt (at_spot b s (Tail 128 191 0) bs (lead_two b g194 lt) e h) rest
    | inr g224 ↦ elim (cases_lt b 240) [
      | inl lt ↦ elim (cases_eq b 224) [
        | inl same ↦ after_three b 160 191 bs g224 lt (omega arith) (omega arith) (λ q. omega arith) (λ q. omega (arith, q, same))
            (at_spot b s (Tail 160 191 1) bs (lead_224 b same) e h) rest
        | inr p ↦ elim (cases_eq b 237) [
          | inl same ↦ after_three b 128 159 bs g224 lt (omega arith) (omega arith) (λ q. omega (arith, q, same)) (λ q. omega arith)
              (at_spot b s (Tail 128 159 1) bs (lead_237 b same) e h) rest
          | inr q ↦ after_three b 128 191 bs g224 lt (omega arith) (omega arith) (λ r. absurd (p r)) (λ r. absurd (q r))
              (at_spot b s (Tail 128 191 1) bs (lead_three b g224 lt p q) e h) rest
        ]
      ]
      | inr g240 ↦ elim (cases_lt b 245) [
        | inl lt ↦ elim (cases_eq b 240) [
          | inl same ↦ after_four b 144 191 bs g240 (omega (arith, lt)) (omega arith) (omega arith) (λ q. omega arith) (λ q. omega (arith, q, same))
              (at_spot b s (Tail 144 191 2) bs (lead_240 b same) e h) rest
          | inr p ↦ elim (cases_eq b 244) [
            | inl same ↦ after_four b 128 143 bs g240 (omega (arith, lt)) (omega arith) (omega arith) (λ q. absurd (p q)) (λ q. omega arith)
                (at_spot b s (Tail 128 143 2) bs (lead_244 b same) e h) rest
            | inr q ↦ after_four b 128 191 bs g240 (omega (arith, lt)) (omega arith) (omega arith) (λ r. absurd (p r)) (λ r. absurd (q r))
                (at_spot b s (Tail 128 191 2) bs (lead_four b g240 (omega (arith, lt, q)) p) e h) rest
          ]
        ]
        | inr past ↦ absurd (no_lead b s (lead_past b past) e)
      ]
    ]
  ]
]

-- bytes of at most so many are UTF-8 where they are whole characters
whole_within : (k : ℕ) (bs : List ℕ) → length bs ≤ k → Chars Between bs → IsUtf8 bs
unfolding Chars
whole_within k [] le h = IsUtf8-nil
whole_within zero (b ∷ bs) le h = absurd (omega (arith, le))
whole_within (suc k) (b ∷ bs) le h = elim h [
  | inl ascii ↦ IsUtf8-append (b ∷ []) bs (one b ascii.0) (whole_within k bs (omega (arith, le)) ascii.1)
  | inr other ↦ led b other.1 bs other.2 other.3 (λ cs less chars. whole_within k cs (omega (arith, le, less)) chars)
]

pub whole_utf8 : (bytes : List ℕ) → IsWhole bytes → is_utf8 bytes ≡ true
whole_utf8 bytes h = is_utf8-from_IsUtf8 bytes (whole_within (length bytes) bytes (omega arith) h)

-- a scalar value below the end of the surrogates is below their beginning
below_surrogates : (n : ℕ) → IsScalar n → n < 57344 → n < 55296
below_surrogates n scalar below = elim (cases_lt n 55296) [
  | inl lt ↦ lt
  | inr ge ↦ absurd (let f = rw (le-ltb n 55296 ge, lt-leb 57344 n below) at scalar in cc)
]

abbrev Whole : List ℕ → List ℕ → Type 0
Whole rest front = Chars Between (front ++ rest)

three_whole : (n : ℕ) (rest : List ℕ) → IsScalar n → 2048 ≤ n → n < 65536 → Chars Between rest
    → Chars Between ((224 + n / 4096) ∷ (128 + n / 64 % 64) ∷ (128 + n % 64) ∷ rest)
unfolding Chars
three_whole n rest scalar big small h =
    let b = 224 + n / 4096 in
    elim (cases_eq b 224) [
      | inl same ↦ inr (omega arith, Tail 160 191 1, lead_224 b same, (omega (arith, same, big), omega arith, (omega arith, omega arith, h)))
      | inr p ↦ elim (cases_eq b 237) [
        | inl same ↦
            let low : n < 55296 = below_surrogates n scalar (omega (arith, same)) in
            inr (omega arith, Tail 128 159 1, lead_237 b same, (omega arith, omega (arith, same, low), (omega arith, omega arith, h)))
        | inr q ↦ inr (omega arith, Tail 128 191 1, lead_three b (omega arith) (omega (arith, small)) p q, (omega arith, omega arith, (omega arith, omega arith, h)))
      ]
    ]

four_whole : (n : ℕ) (rest : List ℕ) → 65536 ≤ n → n < 1114112 → Chars Between rest
    → Chars Between ((240 + n / 262144) ∷ (128 + n / 4096 % 64) ∷ (128 + n / 64 % 64) ∷ (128 + n % 64) ∷ rest)
unfolding Chars
four_whole n rest big small h =
    let b = 240 + n / 262144 in
    let tail : Chars (Tail 128 191 1) ((128 + n / 64 % 64) ∷ (128 + n % 64) ∷ rest) = (omega arith, omega arith, (omega arith, omega arith, h)) in
    elim (cases_eq b 240) [
      | inl same ↦ inr (omega arith, Tail 144 191 2, lead_240 b same, (omega (arith, same, big), omega arith, tail))
      | inr p ↦ elim (cases_eq b 244) [
        | inl same ↦ inr (omega arith, Tail 128 143 2, lead_244 b same, (omega arith, omega (arith, same, small), tail))
        | inr q ↦ inr (omega arith, Tail 128 191 2, lead_four b (omega arith) (omega (arith, small, q)) p, (omega arith, omega arith, tail))
      ]
    ]

-- the bytes of a character, and whole characters behind them, are whole characters
encoded_whole : (n : ℕ) (rest : List ℕ) → IsScalar n → n < 1114112 → Chars Between rest → Chars Between (encode_utf8 n ++ rest)
unfolding encode_utf8 Chars
encoded_whole n rest scalar most h = elim (cases_lt n 128) [
  | inl lt ↦ subst (Whole rest) (sym (let e : encode_utf8 n ≡ n ∷ [] = rw (lt-ltb n 128 lt) refl in e)) (inl (lt, h))
  | inr g1 ↦ elim (cases_lt n 2048) [
    | inl lt ↦
        let e : encode_utf8 n ≡ (192 + n / 64) ∷ (128 + n % 64) ∷ [] = rw (le-ltb n 128 g1, lt-ltb n 2048 lt) refl in
        subst (Whole rest) (sym e)
        (inr (omega arith, Tail 128 191 0, lead_two (192 + n / 64) (omega (arith, g1)) (omega (arith, lt)), (omega arith, omega arith, h)))
    | inr g2 ↦ elim (cases_lt n 65536) [
      | inl lt ↦
          let e : encode_utf8 n ≡ (224 + n / 4096) ∷ (128 + n / 64 % 64) ∷ (128 + n % 64) ∷ [] =
          rw (le-ltb n 128 g1, le-ltb n 2048 g2, lt-ltb n 65536 lt) refl in
          subst (Whole rest) (sym e) (three_whole n rest scalar g2 lt h)
      | inr g3 ↦
          let e : encode_utf8 n ≡ (240 + n / 262144) ∷ (128 + n / 4096 % 64) ∷ (128 + n / 64 % 64) ∷ (128 + n % 64) ∷ [] =
          rw (le-ltb n 128 g1, le-ltb n 2048 g2, le-ltb n 65536 g3) refl in
          subst (Whole rest) (sym e) (four_whole n rest g3 most h)
    ]
  ]
]

-- a scalar value is below 0x110000
scalar_most : (n : ℕ) → IsScalar n → n < 1114112
scalar_most n scalar = elim (cases_lt n 55296) [
  | inl lt ↦ omega (arith, lt)
  | inr ge ↦ ltb-true n 1114112 (and_parts (leb 57344 n) (ltb n 1114112) (rw (le-ltb n 55296 ge) at scalar)).1
]

abbrev scalar_of : ℕ → Bool
scalar_of c = cond (ltb c 55296) true (leb 57344 c && ltb c 1114112)

whole_all : (cs : List ℕ) → all_scalars cs ≡ true → Chars Between (encode_utf8_all cs)
unfolding Chars
whole_all [] h = tt
whole_all (c ∷ cs) h =
    let both = and_parts (scalar_of c) (all_scalars cs) h in
    encoded_whole c (encode_utf8_all cs) both.0 (scalar_most c both.0) (whole_all cs both.1)

pub utf8_whole : (bytes : List ℕ) → is_utf8 bytes ≡ true → IsWhole bytes
utf8_whole bytes h = let u = IsUtf8-from_is_utf8 bytes h in subst IsWhole u.1.1 (whole_all u.0 u.1.0)

-- a text with escapes

ascii_escaped : (b : ℕ) (bs : List ℕ) → b < 128 → Chars Between bs → Chars Between (escape b ++ bs)
unfolding Chars
ascii_escaped b bs low h = elim (cases_eq b 38) [
  | inl same ↦ subst (λ x. Chars Between (escape x ++ bs)) (sym same)
      (inl (omega arith, inl (omega arith, inl (omega arith, inl (omega arith, inl (omega arith, h))))))
  | inr p ↦ elim (cases_eq b 60) [
    | inl same ↦ subst (λ x. Chars Between (escape x ++ bs)) (sym same)
        (inl (omega arith, inl (omega arith, inl (omega arith, inl (omega arith, h)))))
    | inr q ↦ elim (cases_eq b 62) [
      | inl same ↦ subst (λ x. Chars Between (escape x ++ bs)) (sym same)
          (inl (omega arith, inl (omega arith, inl (omega arith, inl (omega arith, h)))))
      | inr r ↦ subst (Whole bs) (sym (plain b p q r)) (inl (low, h))
    ]
  ]
]

escaped_chars : (s : Spot) (bs : List ℕ) → IsHigh s → Chars s bs → Chars s (escaped bs)
unfolding Chars
escaped_chars Between [] high h = tt
escaped_chars Between (b ∷ bs) high h = elim h [
  | inl ascii ↦ ascii_escaped b (escaped bs) ascii.0 (escaped_chars Between bs tt ascii.1)
  | inr other ↦ subst (Whole (escaped bs)) (sym (high_plain b other.0))
      (inr (other.0, other.1, other.2, escaped_chars other.1 bs (lead_high b other.1 other.2) other.3))
]
escaped_chars (Tail low high more) [] is h = absurd h
escaped_chars (Tail low high more) (b ∷ bs) is h =
    subst (λ front. Chars (Tail low high more) (front ++ escaped bs)) (sym (high_plain b (omega (arith, is.0, h.0))))
    (h.0, h.1, escaped_chars (behind more) bs (behind_high more) h.2)
escaped_chars Ampersand bs is h = absurd h
escaped_chars WantsM bs is h = absurd h
escaped_chars WantsP bs is h = absurd h
escaped_chars (Tee code) bs is h = absurd h
escaped_chars (Semi code) bs is h = absurd h

pub escaped_utf8 : (bytes : List ℕ) → is_utf8 bytes ≡ true → is_utf8 (escaped bytes) ≡ true
escaped_utf8 bytes h = whole_utf8 (escaped bytes) (escaped_chars Between bytes tt (utf8_whole bytes h))

-- no bytes are whole characters
pub nothing_whole : IsWhole []
unfolding Chars
nothing_whole = tt
