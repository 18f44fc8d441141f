-- Texts in percent-encoding are read exactly.
use Rattle.std.proofs.Common.{◌≡◌, ℕ, zero, suc, ◌+◌, ◌-◌, ◌*◌, ◌/◌, ◌%◌, ◌≤◌, ◌<◌, Bool, true, false, ◌&&◌, cond, eqb, ltb, leb, List, [], ◌∷◌, ◌++◌, Option, Some, None, refl, sym, ap, subst, ◌∙◌, arith, inl, inr, append_assoc}
use Rattle.std.proofs.lemmas.Bool.{cases_eq, cases_lt, eq-eqb, ne_eqb, le-leb, lt-leb, lt-ltb, le-ltb, leb-true, ltb-true, and_parts, agree_below_at}
use Rattle.std.proofs.lemmas.Bool.Decides.{nat_tests}
use Rattle.std.proofs.lemmas.List.{append-nil}
use Rattle.std.specs.Option.{is_some}
use Rattle.sx_text.specs.declared.escaped_reader.Spot.{Spot}
use Rattle.sx_text.specs.declared.escaped_reader.Spot.TheVariants.{Between, Tail, Ampersand, WantsM, WantsP, Tee, Semi}
use Rattle.sx_text.specs.Machines.{Step, Ends, Goes, Fails, By, Leads, IsLive}
use Rattle.sx_text.specs.Escapes.{lead_of, behind, spot_after, Chars}
use Rattle.sx_text.proofs.Laws.{Reads}
use Rattle.sx_text.proofs.Literals.{after-reading}
use Rattle.sx_text.proofs.Machines.{machine-reading}
use Rattle.sx_listing.specs.declared.percent_reader.Escape.{Escape}
use Rattle.sx_listing.specs.declared.percent_reader.Escape.TheVariants.{Plain, Percent, Digit}
use Rattle.sx_listing.specs.Percent.{is_unreserved, upper_digit, percent_byte, percent_text}
use Rattle.sx_listing.specs.PercentReader.{percent_ended, upper_value, Place, ended_at, kept_at, may_escape, first_digit, second_digit, percent_step, percent_at, percent_after}

-- UTF-8, spot by spot

-- the spots that come: a tail's range has a byte, and none of ASCII
abbrev IsSpot : Spot → Type 0
IsSpot Between = Unit {0}
IsSpot (Tail low high more) = (128 ≤ low) × (low ≤ high) × (high < 256)
IsSpot s = ⊥

abbrev SpotOk : Option Spot → Type 0
SpotOk None = Unit {0}
SpotOk (Some s) = IsSpot s

either_ok : (c : Bool) (x y : Option Spot) → SpotOk x → SpotOk y → SpotOk (cond c x y)
either_ok true x y p q = p
either_ok false x y p q = q

lead_ok : (b : ℕ) → SpotOk (lead_of b)
unfolding lead_of
lead_ok b = either_ok (ltb b 194) None _ tt (either_ok (ltb b 224) (Some (Tail 128 191 0)) _ (omega arith, omega arith, omega arith) (either_ok (eqb b 224) (Some (Tail 160 191 1)) _ (omega arith, omega arith, omega arith)
    (either_ok (eqb b 237) (Some (Tail 128 159 1)) _ (omega arith, omega arith, omega arith) (either_ok (ltb b 240) (Some (Tail 128 191 1)) _ (omega arith, omega arith, omega arith) (either_ok (eqb b 240) (Some (Tail 144 191 2)) _ (omega arith, omega arith, omega arith)
    (either_ok (ltb b 244) (Some (Tail 128 191 2)) _ (omega arith, omega arith, omega arith) (either_ok (eqb b 244) (Some (Tail 128 143 2)) None (omega arith, omega arith, omega arith) tt)))))))

behind_ok : (n : ℕ) → IsSpot (behind n)
behind_ok zero = tt
behind_ok (suc n) = (omega arith, omega arith, omega arith)

after_ok : (s : Spot) (b : ℕ) → SpotOk (spot_after s b)
after_ok Between b = either_ok (ltb b 128) (Some Between) (lead_of b) tt (lead_ok b)
after_ok (Tail low high more) b = either_ok (leb low b && leb b high) (Some (behind more)) None (behind_ok more) tt
after_ok Ampersand b = tt
after_ok WantsM b = tt
after_ok WantsP b = tt
after_ok (Tee code) b = tt
after_ok (Semi code) b = tt

after_spot : (s t : Spot) (b : ℕ) → spot_after s b ≡ Some t → IsSpot t
after_spot s t b e = subst SpotOk e (after_ok s b)

cond_some : (c : Bool) (x t : Spot) → cond c (Some x) None ≡ Some t → (c ≡ true) × (x ≡ t)
cond_some true x t e = (refl, cc)
cond_some false x t e = absurd cc

some_is : (x t : Spot) → Some x ≡ Some t → x ≡ t
some_is x t e = cc

lead_range : (b : ℕ) (t : Spot) → lead_of b ≡ Some t → (194 ≤ b) × (b < 245)
unfolding lead_of
lead_range b t e = elim (cases_lt b 194) [
  | inl lt ↦ absurd (let f = rw (lt-ltb b 194 lt) at e in cc)
  | inr le ↦ elim (cases_lt b 245) [
    | inl lt ↦ (le, lt)
    | inr high ↦ absurd (let f = rw (le-ltb b 194 le, le-ltb b 224 (omega (arith, high)), ne_eqb b 224 (λ q. omega (arith, q, high)), ne_eqb b 237 (λ q. omega (arith, q, high)), le-ltb b 240 (omega (arith, high)), ne_eqb b 240 (λ q. omega (arith, q, high)), le-ltb b 244 (omega (arith, high)), ne_eqb b 244 (λ q. omega (arith, q, high))) at e in cc)
  ]
]

-- a byte that may stand at a spot, and its first digit
after_byte : (s t : Spot) (b : ℕ) → IsSpot s → spot_after s b ≡ Some t → b < 256
after_byte Between t b ok e = elim (cases_lt b 128) [
  | inl lt ↦ omega (arith, lt)
  | inr le ↦ let r = lead_range b t (rw (le-ltb b 128 le) at e) in omega (arith, r.1)
]
after_byte (Tail low high more) t b ok e =
    let p = and_parts (leb low b) (leb b high) (cond_some (leb low b && leb b high) (behind more) t e).0 in
    omega (arith, leb-true b high p.1, ok.2)
after_byte Ampersand t b ok e = absurd ok
after_byte WantsM t b ok e = absurd ok
after_byte WantsP t b ok e = absurd ok
after_byte (Tee code) t b ok e = absurd ok
after_byte (Semi code) t b ok e = absurd ok

chars_cons : (s t : Spot) (b : ℕ) (bs : List ℕ) → spot_after s b ≡ Some t → Chars t bs → Chars s (b ∷ bs)
unfolding Chars
chars_cons Between t b bs e c = elim (cases_lt b 128) [
  | inl lt ↦ inl (lt, subst (λ (r : Spot). Chars r bs) (sym (some_is Between t (rw (lt-ltb b 128 lt) at e))) c)
  | inr le ↦ inr (le, t, rw (le-ltb b 128 le) at e, c)
]
chars_cons (Tail low high more) t b bs e c =
    let p = cond_some (leb low b && leb b high) (behind more) t e in
    let q = and_parts (leb low b) (leb b high) p.0 in
    (leb-true low b q.0, leb-true b high q.1, subst (λ (r : Spot). Chars r bs) (sym p.1) c)
chars_cons Ampersand t b bs e c = absurd cc
chars_cons WantsM t b bs e c = absurd cc
chars_cons WantsP t b bs e c = absurd cc
chars_cons (Tee code) t b bs e c = absurd cc
chars_cons (Semi code) t b bs e c = absurd cc

chars_uncons : (s : Spot) (b : ℕ) (bs : List ℕ) → Chars s (b ∷ bs) → (t : Spot) × (spot_after s b ≡ Some t) × Chars t bs
unfolding Chars
chars_uncons Between b bs (inl p) = (Between, rw (lt-ltb b 128 p.0) refl, p.1)
chars_uncons Between b bs (inr p) = (p.1, rw (le-ltb b 128 p.0) p.2, p.3)
chars_uncons (Tail low high more) b bs p = (behind more, rw (le-leb low b p.0, le-leb b high p.1) refl, p.2)
chars_uncons Ampersand b bs p = absurd p
chars_uncons WantsM b bs p = absurd p
chars_uncons WantsP b bs p = absurd p
chars_uncons (Tee code) b bs p = absurd p
chars_uncons (Semi code) b bs p = absurd p

chars_nil : (s : Spot) → Chars s [] → s ≡ Between
unfolding Chars
chars_nil Between c = refl
chars_nil (Tail low high more) c = absurd c
chars_nil Ampersand c = absurd c
chars_nil WantsM c = absurd c
chars_nil WantsP c = absurd c
chars_nil (Tee code) c = absurd c
chars_nil (Semi code) c = absurd c

some_behind : (n : ℕ) → (u : List ℕ) × Chars (behind n) u
unfolding Chars
some_behind zero = ([], tt)
some_behind (suc n) = let h = some_behind n in (128 ∷ h.0, (omega arith, omega arith, h.1))

some_chars : (s : Spot) → IsSpot s → (u : List ℕ) × Chars s u
unfolding Chars
some_chars Between ok = ([], tt)
some_chars (Tail low high more) ok = let h = some_behind more in (low ∷ h.0, (omega arith, ok.1, h.1))
some_chars Ampersand ok = absurd ok
some_chars WantsM ok = absurd ok
some_chars WantsP ok = absurd ok
some_chars (Tee code) ok = absurd ok
some_chars (Semi code) ok = absurd ok

-- digits

digit_value : (n : ℕ) → n < 16 → upper_value (upper_digit n) ≡ Some n
unfolding upper_value
digit_value n lt = elim (cases_lt n 10) [
  | inl low ↦ rw (lt-ltb n 10 low, le-leb 48 (48 + n) (omega arith), le-leb (48 + n) 57 (omega (arith, low))) (ap (λ (k : ℕ). Some k) (omega arith))
  | inr high ↦ rw (le-ltb n 10 high, le-leb 48 (55 + n) (omega arith), lt-leb (55 + n) 57 (omega (arith, high)), le-leb 65 (55 + n) (omega (arith, high)), le-leb (55 + n) 70 (omega (arith, lt))) (ap (λ (k : ℕ). Some k) (omega arith))
]

number_is : (x n : ℕ) → Some x ≡ Some n → x ≡ n
number_is x n e = cc

value_digit : (b n : ℕ) → upper_value b ≡ Some n → (n < 16) × (upper_digit n ≡ b)
unfolding upper_value
value_digit b n e = elim (cases_lt b 48) [
  | inl lt ↦ absurd (let f = rw (lt-leb 48 b lt, lt-leb 65 b (omega (arith, lt))) at e in cc)
  | inr le ↦ elim (cases_lt b 58) [
    | inl lt ↦
        let q = number_is (b - 48) n (rw (le-leb 48 b le, le-leb b 57 (omega (arith, lt))) at e) in
        (omega (arith, q, lt), rw (lt-ltb n 10 (omega (arith, q, lt, le))) (omega (arith, q, le)))
    | inr more ↦ let f = rw (le-leb 48 b le, lt-leb b 57 (omega (arith, more))) at e in elim (cases_lt b 65) [
      | inl lt ↦ absurd (let g = rw (lt-leb 65 b lt) at f in cc)
      | inr from ↦ elim (cases_lt b 71) [
        | inl lt ↦
            let q = number_is (b - 55) n (rw (le-leb 65 b from, le-leb b 70 (omega (arith, lt))) at f) in
            (omega (arith, q, lt), rw (le-ltb n 10 (omega (arith, q, from))) (omega (arith, q, from)))
        | inr past ↦ absurd (let g = rw (le-leb 65 b from, lt-leb b 70 (omega (arith, past))) at f in cc)
      ]
    ]
  ]
]

-- each text is read

plain_step : (kept : List ℕ) (s t : Spot) (b : ℕ) → is_unreserved b ≡ true → spot_after s b ≡ Some t → percent_step (kept, (s, Plain)) b ≡ Goes (kept ++ b ∷ [], (t, Plain))
plain_step kept s t b kind e = rw (ne_eqb b 60 (λ q. let f = rw q at kind in cc), ne_eqb b 37 (λ q. let f = rw q at kind in cc), kind, e) refl

first_step : (kept : List ℕ) (s : Spot) (high : ℕ) → high < 16 → may_escape s high ≡ true → percent_step (kept, (s, Percent)) (upper_digit high) ≡ Goes (kept, (s, Digit high))
first_step kept s high lt may = ap (first_digit kept s) (digit_value high lt) ∙ rw may refl

second_step : (kept : List ℕ) (s t : Spot) (high low : ℕ) → low < 16 → is_unreserved (16 * high + low) ≡ false → spot_after s (16 * high + low) ≡ Some t
    → percent_step (kept, (s, Digit high)) (upper_digit low) ≡ Goes (kept ++ (16 * high + low) ∷ [], (t, Plain))
second_step kept s t high low lt kind e = ap (second_digit kept s high) (digit_value low lt) ∙ rw (kind, e) refl

may_from : (s t : Spot) (high low : ℕ) → low < 16 → spot_after s (16 * high + low) ≡ Some t → may_escape s high ≡ true
unfolding may_escape
may_from Between t high low lt e = elim (cases_lt (16 * high + low) 128) [
  | inl ascii ↦ rw (lt-ltb high 8 (omega (arith, ascii))) refl
  | inr le ↦
      let r = lead_range (16 * high + low) t (rw (le-ltb (16 * high + low) 128 le) at e) in
      rw (le-ltb high 8 (omega (arith, r.0, lt)), le-leb 12 high (omega (arith, r.0, lt))) refl
]
may_from (Tail least top more) t high low lt e =
    let p = and_parts (leb least (16 * high + low)) (leb (16 * high + low) top) (cond_some (leb least (16 * high + low) && leb (16 * high + low) top) (behind more) t e).0 in
    rw (le-leb (16 * high) top (omega (arith, leb-true (16 * high + low) top p.1)), lt-ltb least (16 * high + 16) (omega (arith, lt, leb-true least (16 * high + low) p.0))) refl
may_from Ampersand t high low lt e = absurd cc
may_from WantsM t high low lt e = absurd cc
may_from WantsP t high low lt e = absurd cc
may_from (Tee code) t high low lt e = absurd cc
may_from (Semi code) t high low lt e = absurd cc

-- from the second digit on, and from the first
from_second : (kept : List ℕ) (s t : Spot) (high low : ℕ) (w v : List ℕ) → low < 16 → is_unreserved (16 * high + low) ≡ false → spot_after s (16 * high + low) ≡ Some t
    → Leads percent_step (kept ++ (16 * high + low) ∷ [], (t, Plain)) w v → Leads percent_step (kept, (s, Digit high)) (upper_digit low ∷ w) v
from_second kept s t high low w v lt kind e l = rw (second_step kept s t high low lt kind e) l

from_first : (kept : List ℕ) (s t : Spot) (high low : ℕ) (w v : List ℕ) → high < 16 → low < 16 → is_unreserved (16 * high + low) ≡ false → spot_after s (16 * high + low) ≡ Some t
    → Leads percent_step (kept ++ (16 * high + low) ∷ [], (t, Plain)) w v → Leads percent_step (kept, (s, Percent)) (upper_digit high ∷ upper_digit low ∷ w) v
from_first kept s t high low w v lt lt' kind e l = rw (first_step kept s high lt (may_from s t high low lt' e)) (from_second kept s t high low w v lt' kind e l)

escaped_byte : (x : ℕ) → is_unreserved x ≡ false → percent_byte x ≡ 37 ∷ upper_digit (x / 16) ∷ upper_digit (x % 16) ∷ []
unfolding percent_byte
escaped_byte x kind = rw kind refl

plain_byte : (x : ℕ) → is_unreserved x ≡ true → percent_byte x ≡ x ∷ []
unfolding percent_byte
plain_byte x kind = rw kind refl

-- one byte more in front
one_more : (s t : Spot) (kept : List ℕ) (x : ℕ) (u : List ℕ) (kind : Bool) → is_unreserved x ≡ kind → IsSpot s → spot_after s x ≡ Some t
    → Leads percent_step (kept ++ x ∷ [], (t, Plain)) (percent_ended u) ((kept ++ x ∷ []) ++ u) → Leads percent_step (kept, (s, Plain)) (percent_ended (x ∷ u)) (kept ++ x ∷ u)
one_more s t kept x u true kind ok e l =
    let v : (kept ++ x ∷ []) ++ u ≡ kept ++ x ∷ u = append_assoc kept (x ∷ []) u in
    let w : percent_ended (x ∷ u) ≡ x ∷ percent_ended u = ap (λ (y : List ℕ). (y ++ percent_text u) ++ 60 ∷ []) (plain_byte x kind) in
    subst (λ (y : List ℕ). Leads percent_step (kept, (s, Plain)) y (kept ++ x ∷ u)) (sym w)
    (rw (plain_step kept s t x kind e) (subst (λ (y : List ℕ). Leads percent_step (kept ++ x ∷ [], (t, Plain)) (percent_ended u) y) v l))
one_more s t kept x u false kind ok e l =
    let v : (kept ++ x ∷ []) ++ u ≡ kept ++ x ∷ u = append_assoc kept (x ∷ []) u in
    let w : percent_ended (x ∷ u) ≡ 37 ∷ upper_digit (x / 16) ∷ upper_digit (x % 16) ∷ percent_ended u = ap (λ (y : List ℕ). (y ++ percent_text u) ++ 60 ∷ []) (escaped_byte x kind) in
    let lt = after_byte s t x ok e in
    let is : x ≡ 16 * (x / 16) + x % 16 = omega arith in
    let l1 = subst (λ (y : List ℕ). Leads percent_step (kept ++ x ∷ [], (t, Plain)) (percent_ended u) y) v l in
    subst (λ (y : List ℕ). Leads percent_step (kept, (s, Plain)) y (kept ++ x ∷ u)) (sym w)
    (from_first kept s t (x / 16) (x % 16) (percent_ended u) (kept ++ x ∷ u) (omega (arith, lt)) (omega arith)
    (subst (λ (y : ℕ). is_unreserved y ≡ false) is kind) (subst (λ (y : ℕ). spot_after s y ≡ Some t) is e)
    (subst (λ (y : ℕ). Leads percent_step (kept ++ y ∷ [], (t, Plain)) (percent_ended u) (kept ++ x ∷ u)) is l1))

complete : (s : Spot) (kept u : List ℕ) → IsSpot s → Chars s u → Leads percent_step (kept, (s, Plain)) (percent_ended u) (kept ++ u)
complete s kept [] ok c = subst (λ (r : Spot). Leads percent_step (kept, (r, Plain)) (60 ∷ []) (kept ++ [])) (sym (chars_nil s c)) (refl, sym (append-nil kept))
complete s kept (x ∷ u) ok c =
    let h = chars_uncons s x u c in
    one_more s h.0 kept x u (is_unreserved x) refl ok h.1 (complete h.0 (kept ++ x ∷ []) u (after_spot s h.0 x h.1) h.2)

-- what is read is a text

abbrev SoundPlain : Spot → List ℕ → List ℕ → List ℕ → Type 0
SoundPlain s kept w v = (u : List ℕ) × (v ≡ kept ++ u) × Chars s u × (percent_ended u ≡ w)

abbrev SoundSecond : Spot → ℕ → List ℕ → List ℕ → List ℕ → Type 0
SoundSecond s high kept w v =
    (low : ℕ) × (u : List ℕ) × (low < 16) × (is_unreserved (16 * high + low) ≡ false) × (v ≡ kept ++ (16 * high + low) ∷ u)
    × Chars s ((16 * high + low) ∷ u) × (upper_digit low ∷ percent_ended u ≡ w)

abbrev SoundFirst : Spot → List ℕ → List ℕ → List ℕ → Type 0
SoundFirst s kept w v = (high : ℕ) × (left : List ℕ) × (high < 16) × (upper_digit high ∷ left ≡ w) × SoundSecond s high kept left v

abbrev Sound : Spot → Escape → List ℕ → List ℕ → List ℕ → Type 0
Sound s Plain kept w v = SoundPlain s kept w v
Sound s Percent kept w v = SoundFirst s kept w v
Sound s (Digit high) kept w v = SoundSecond s high kept w v

abbrev Then : List ℕ → List ℕ → Step Place (List ℕ) → Type 0
Then w v step = By step (λ u. (w ≡ []) × (u ≡ v)) (λ t. Leads percent_step t w v)

ends : (s : Spot) (kept w v : List ℕ) → Then w v (ended_at kept s) → (s ≡ Between) × (w ≡ []) × (kept ≡ v)
ends Between kept w v l = (refl, l.0, l.1)
ends (Tail low high more) kept w v l = absurd l
ends Ampersand kept w v l = absurd l
ends WantsM kept w v l = absurd l
ends WantsP kept w v l = absurd l
ends (Tee code) kept w v l = absurd l
ends (Semi code) kept w v l = absurd l

keeps : (o : Option Spot) (kept : List ℕ) (x : ℕ) (w v : List ℕ) → Then w v (kept_at kept x o) → (t : Spot) × (o ≡ Some t) × Leads percent_step (kept ++ x ∷ [], (t, Plain)) w v
keeps None kept x w v l = absurd l
keeps (Some t) kept x w v l = (t, refl, l)

goes_by : (c : Bool) (w v : List ℕ) (p : Place) → Then w v (cond c (Goes p) Fails) → (c ≡ true) × Leads percent_step p w v
goes_by true w v p l = (refl, l)
goes_by false w v p l = absurd l

firsts : (o : Option ℕ) (s : Spot) (kept w v : List ℕ) → Then w v (first_digit kept s o) → (high : ℕ) × (o ≡ Some high) × Leads percent_step (kept, (s, Digit high)) w v
firsts None s kept w v l = absurd l
firsts (Some high) s kept w v l = (high, refl, (goes_by (may_escape s high) w v (kept, (s, Digit high)) l).1)

unless : (c : Bool) (w v : List ℕ) (step : Step Place (List ℕ)) → Then w v (cond c Fails step) → (c ≡ false) × Then w v step
unless true w v step l = absurd l
unless false w v step l = (refl, l)

only_if : (c : Bool) (w v : List ℕ) (step : Step Place (List ℕ)) → Then w v (cond c step Fails) → (c ≡ true) × Then w v step
only_if true w v step l = (refl, l)
only_if false w v step l = absurd l

seconds : (o : Option ℕ) (s : Spot) (high : ℕ) (kept w v : List ℕ) → Then w v (second_digit kept s high o)
    → (low : ℕ) × (o ≡ Some low) × (is_unreserved (16 * high + low) ≡ false) × (t : Spot) × (spot_after s (16 * high + low) ≡ Some t) × Leads percent_step (kept ++ (16 * high + low) ∷ [], (t, Plain)) w v
seconds None s high kept w v l = absurd l
seconds (Some low) s high kept w v l =
    let p = unless (is_unreserved (16 * high + low)) w v (kept_at kept (16 * high + low) (spot_after s (16 * high + low))) l in
    let q = keeps (spot_after s (16 * high + low)) kept (16 * high + low) w v p.1 in
    (low, refl, p.0, q.0, q.1, q.2)

unescaped : (s : Spot) (kept w v : List ℕ) → SoundFirst s kept w v → SoundPlain s kept (37 ∷ w) v
unescaped s kept w v h =
    let high = h.0 in
    let g : SoundSecond s high kept h.1 v = h.4 in
    let low = g.0 in
    let x = 16 * high + low in
    let first : x / 16 ≡ high = omega (arith, g.2) in
    let second : x % 16 ≡ low = omega (arith, g.2) in (
      x ∷ g.1,
      g.4,
      g.5,
      ap (λ (y : List ℕ). (y ++ percent_text g.1) ++ 60 ∷ []) (escaped_byte x g.3)
          ∙ ap (λ (y : ℕ). 37 ∷ upper_digit y ∷ upper_digit (x % 16) ∷ percent_ended g.1) first
          ∙ ap (λ (y : ℕ). 37 ∷ upper_digit high ∷ upper_digit y ∷ percent_ended g.1) second
          ∙ ap (λ (y : List ℕ). 37 ∷ upper_digit high ∷ y) g.6
          ∙ ap (λ (y : List ℕ). 37 ∷ y) h.3,
    )

plain_ended : (b : ℕ) (u : List ℕ) → is_unreserved b ≡ true → percent_ended (b ∷ u) ≡ b ∷ percent_ended u
plain_ended b u kind = ap (λ (y : List ℕ). (y ++ percent_text u) ++ 60 ∷ []) (plain_byte b kind)

unencoded : (s t : Spot) (b : ℕ) (kept w v : List ℕ) → is_unreserved b ≡ true → spot_after s b ≡ Some t → SoundPlain t (kept ++ b ∷ []) w v → SoundPlain s kept (b ∷ w) v
unencoded s t b kept w v kind e h =
    (b ∷ h.0, h.1 ∙ append_assoc kept (b ∷ []) h.0, chars_cons s t b h.0 e h.2, plain_ended b h.0 kind ∙ ap (λ (y : List ℕ). b ∷ y) h.3)

abbrev Ih : List ℕ → List ℕ → Type 0
Ih w v = (s : Spot) (e : Escape) (kept : List ℕ) → Leads percent_step (kept, (s, e)) w v → Sound s e kept w v

sound_plain : (s : Spot) (b : ℕ) (kept w v : List ℕ) → Ih w v → Leads percent_step (kept, (s, Plain)) (b ∷ w) v → SoundPlain s kept (b ∷ w) v
unfolding Chars
sound_plain s b kept w v ih l =
    elim (cases_eq b 60) [
      | inl q ↦
          let h = ends s kept w v (rw (eq-eqb b 60 q) at l) in
          ([], sym h.2 ∙ sym (append-nil kept), subst (λ (r : Spot). Chars r []) (sym h.0) tt, rw (q, h.1) refl)
      | inr p ↦ let l1 = rw (ne_eqb b 60 p) at l in elim (cases_eq b 37) [
        | inl q ↦ subst (λ (c : ℕ). SoundPlain s kept (c ∷ w) v) (sym q) (unescaped s kept w v (ih s Percent kept (rw (eq-eqb b 37 q) at l1)))
        | inr r ↦
            let l2 = only_if (is_unreserved b) w v (kept_at kept b (spot_after s b)) (rw (ne_eqb b 37 r) at l1) in
            let k = keeps (spot_after s b) kept b w v l2.1 in
            unencoded s k.0 b kept w v l2.0 k.1 (ih k.0 Plain (kept ++ b ∷ []) k.2)
      ]
    ]

sound : (s : Spot) (e : Escape) (kept w v : List ℕ) → Leads percent_step (kept, (s, e)) w v → Sound s e kept w v
sound s e kept [] v l = absurd l
sound s Plain kept (b ∷ w) v l = sound_plain s b kept w v (λ t f k m. sound t f k w v m) l
sound s Percent kept (b ∷ w) v l =
    let h = firsts (upper_value b) s kept w v l in
    let d = value_digit b h.0 h.1 in
    (h.0, w, d.0, ap (λ (c : ℕ). c ∷ w) d.1, sound s (Digit h.0) kept w v h.2)
sound s (Digit high) kept (b ∷ w) v l =
    let h = seconds (upper_value b) s high kept w v l in
    let d = value_digit b h.0 h.1 in
    let g = sound h.3 Plain (kept ++ (16 * high + h.0) ∷ []) w v h.5 in (
      h.0,
      g.0,
      d.0,
      h.2,
      g.1 ∙ append_assoc kept ((16 * high + h.0) ∷ []) g.0,
      chars_cons s h.3 (16 * high + h.0) g.0 h.4 g.2,
      ap (λ (c : ℕ). c ∷ percent_ended g.0) d.1 ∙ ap (λ (y : List ℕ). b ∷ y) g.3,
    )

-- each state that comes has a text

abbrev IsLiveAt : Spot → Escape → Type 0
IsLiveAt s Plain = IsSpot s
IsLiveAt s Percent = IsSpot s
IsLiveAt s (Digit high) = IsSpot s × (high < 16) × (may_escape s high ≡ true)

abbrev Second : Spot → ℕ → Type 0
Second s high = (low : ℕ) × (t : Spot) × (low < 16) × (is_unreserved (16 * high + low) ≡ false) × (spot_after s (16 * high + low) ≡ Some t)

-- an ASCII byte that is escaped, by its first digit
ascii_second : (high : ℕ) → high < 8 → Second Between high
ascii_second high lt =
    let low = 11 * (high % 2) in
    (low, Between, omega arith, agree_below_at (λ h. is_unreserved (16 * h + 11 * (h % 2))) (λ h. false) 8 high refl lt, rw (lt-ltb (16 * high + low) 128 (omega (arith, lt))) refl)

option_of : (o : Option Spot) → is_some o ≡ true → (t : Spot) × (o ≡ Some t)
option_of None e = absurd cc
option_of (Some t) e = (t, refl)

high_plain : (x : ℕ) → 128 ≤ x → is_unreserved x ≡ false
high_plain x le = grind (arith, nat_tests)

lead_second : (j : ℕ) → j < 4 → is_some (lead_of (16 * (12 + j) + 2)) ≡ true
unfolding lead_of
lead_second j lt = agree_below_at (λ h. is_some (lead_of (16 * (12 + h) + 2))) (λ h. true) 4 j refl lt

first_byte : (high : ℕ) → 12 ≤ high → high < 16 → Second Between high
first_byte high le lt =
    let e : 12 + (high - 12) ≡ high = omega (arith, le) in
    let some = option_of (lead_of (16 * high + 2)) (subst (λ (h : ℕ). is_some (lead_of (16 * h + 2)) ≡ true) e (lead_second (high - 12) (omega (arith, lt, le)))) in
    (2, some.0, omega arith, high_plain (16 * high + 2) (omega (arith, le)), rw (le-ltb (16 * high + 2) 128 (omega (arith, le))) some.1)

tail_second : (least top more high : ℕ) → IsSpot (Tail least top more) → 16 * high ≤ top → least < 16 * high + 16 → Second (Tail least top more) high
tail_second least top more high ok le lt = elim (cases_lt (16 * high) least) [
  | inl below ↦
      let e : 16 * high + (least - 16 * high) ≡ least = omega (arith, below) in
      (least - 16 * high, behind more, omega (arith, lt, below), rw e (high_plain least ok.0), rw e (rw (le-leb least least (omega arith), le-leb least top ok.1) refl))
  | inr above ↦
      let e : 16 * high + 0 ≡ 16 * high = omega arith in
      (0, behind more, omega arith, rw e (high_plain (16 * high) (omega (arith, above, ok.0))), rw e (rw (le-leb least (16 * high) above, le-leb (16 * high) top le) refl))
]

find_second : (s : Spot) (high : ℕ) → IsSpot s → high < 16 → may_escape s high ≡ true → Second s high
unfolding may_escape
find_second Between high ok lt may = elim (cases_lt high 8) [
  | inl low ↦ ascii_second high low
  | inr le ↦ first_byte high (leb-true 12 high (rw (le-ltb high 8 le) at may)) lt
]
find_second (Tail least top more) high ok lt may =
    let p = and_parts (leb (16 * high) top) (ltb least (16 * high + 16)) may in
    tail_second least top more high ok (leb-true (16 * high) top p.0) (ltb-true least (16 * high + 16) p.1)
find_second Ampersand high ok lt may = absurd ok
find_second WantsM high ok lt may = absurd ok
find_second WantsP high ok lt may = absurd ok
find_second (Tee code) high ok lt may = absurd ok
find_second (Semi code) high ok lt may = absurd ok

find_first : (s : Spot) → IsSpot s → (high : ℕ) × (high < 16) × Second s high
find_first Between ok = (2, omega arith, ascii_second 2 (omega arith))
find_first (Tail least top more) ok = (least / 16, omega (arith, ok.1, ok.2), tail_second least top more (least / 16) ok (omega (arith, ok.1)) (omega arith))
find_first Ampersand ok = absurd ok
find_first WantsM ok = absurd ok
find_first WantsP ok = absurd ok
find_first (Tee code) ok = absurd ok
find_first (Semi code) ok = absurd ok

abbrev HasText : Place → Type 0
HasText p = (w : List ℕ) × (v : List ℕ) × Leads percent_step p w v

plain_text : (kept : List ℕ) (s : Spot) → IsSpot s → HasText (kept, (s, Plain))
plain_text kept s ok = let u = some_chars s ok in (percent_ended u.0, kept ++ u.0, complete s kept u.0 ok u.1)

some_text : (kept : List ℕ) (s : Spot) (e : Escape) → IsLiveAt s e → HasText (kept, (s, e))
some_text kept s Plain ok = plain_text kept s ok
some_text kept s Percent ok =
    let f = find_first s ok in
    let g : Second s f.0 = f.2 in
    let h = plain_text (kept ++ (16 * f.0 + g.0) ∷ []) g.1 (after_spot s g.1 (16 * f.0 + g.0) g.4) in
    (upper_digit f.0 ∷ upper_digit g.0 ∷ h.0, h.1, from_first kept s g.1 f.0 g.0 h.0 h.1 f.1 g.2 g.3 g.4 h.2)
some_text kept s (Digit high) ok =
    let g = find_second s high ok.0 ok.1 ok.2 in
    let h = plain_text (kept ++ (16 * high + g.0) ∷ []) g.1 (after_spot s g.1 (16 * high + g.0) g.4) in
    (upper_digit g.0 ∷ h.0, h.1, from_second kept s g.1 high g.0 h.0 h.1 g.2 g.3 g.4 h.2)

abbrev GoesLive : Step Place (List ℕ) → Type 0
GoesLive (Ends v) = Unit {0}
GoesLive (Goes (k, (s, e))) = IsLiveAt s e
GoesLive Fails = Unit {0}

either_live : (c : Bool) (x y : Step Place (List ℕ)) → GoesLive x → GoesLive y → GoesLive (cond c x y)
either_live true x y p q = p
either_live false x y p q = q

ended_live : (s : Spot) (kept : List ℕ) → GoesLive (ended_at kept s)
ended_live Between kept = tt
ended_live (Tail low high more) kept = tt
ended_live Ampersand kept = tt
ended_live WantsM kept = tt
ended_live WantsP kept = tt
ended_live (Tee code) kept = tt
ended_live (Semi code) kept = tt

kept_live : (o : Option Spot) (kept : List ℕ) (x : ℕ) → SpotOk o → GoesLive (kept_at kept x o)
kept_live None kept x ok = tt
kept_live (Some t) kept x ok = ok

if_may : (c : Bool) (s : Spot) (kept : List ℕ) (high : ℕ) → IsSpot s → high < 16 → may_escape s high ≡ c → GoesLive (cond c (Goes (kept, (s, Digit high))) Fails)
if_may true s kept high ok lt e = (ok, lt, e)
if_may false s kept high ok lt e = tt

first_live : (o : Option ℕ) (b : ℕ) (s : Spot) (kept : List ℕ) → IsSpot s → upper_value b ≡ o → GoesLive (first_digit kept s o)
first_live None b s kept ok e = tt
first_live (Some high) b s kept ok e = if_may (may_escape s high) s kept high ok (value_digit b high e).0 refl

second_live : (o : Option ℕ) (s : Spot) (kept : List ℕ) (high : ℕ) → GoesLive (second_digit kept s high o)
second_live None s kept high = tt
second_live (Some low) s kept high =
    either_live (is_unreserved (16 * high + low)) Fails (kept_at kept (16 * high + low) (spot_after s (16 * high + low))) tt
    (kept_live (spot_after s (16 * high + low)) kept (16 * high + low) (after_ok s (16 * high + low)))

step_live : (s : Spot) (e : Escape) (kept : List ℕ) (b : ℕ) → IsLiveAt s e → GoesLive (percent_step (kept, (s, e)) b)
step_live s Plain kept b ok =
    either_live (eqb b 60) (ended_at kept s) _ (ended_live s kept) (either_live (eqb b 37) (Goes (kept, (s, Percent))) _ ok
    (either_live (is_unreserved b) (kept_at kept b (spot_after s b)) Fails (kept_live (spot_after s b) kept b (after_ok s b)) tt))
step_live s Percent kept b ok = first_live (upper_value b) b s kept ok refl
step_live s (Digit high) kept b ok = second_live (upper_value b) s kept high

percent_live : IsLive percent_step (λ p. IsLiveAt p.1.0 p.1.1)
percent_live = record {
  some = λ p h. some_text p.0 p.1.0 p.1.1 h;
  kept = λ p t b h e. subst GoesLive e (step_live p.1.0 p.1.1 p.0 b h);
}

-- the law of `percent_at`
pub percent-reading : Reads cases_eq percent_ended (Chars Between) percent_at
unfolding percent_at
percent-reading = machine-reading cases_eq percent_step (λ p. IsLiveAt p.1.0 p.1.1) ([], (Between, Plain)) percent_ended (Chars Between) percent_live tt
    (λ w v l. let h = sound Between Plain [] w v l in
    (subst (Chars Between) (sym h.1) h.2, ap percent_ended h.1 ∙ h.3))
    (λ v c. complete Between [] v tt c)

pub percent_after-reading : (literal : List ℕ) → Reads cases_eq (λ bs. literal ++ percent_ended bs) (Chars Between) (percent_after literal)
unfolding percent_after Chars
percent_after-reading literal k = after-reading k literal percent_ended (Chars Between) percent_at ([], tt) (percent-reading k)
