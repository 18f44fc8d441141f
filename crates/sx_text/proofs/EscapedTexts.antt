-- Texts with escapes are read exactly.
use Rattle.std.proofs.Common.{codes, ◌≡◌, ℕ, zero, suc, ◌≤◌, ◌<◌, Bool, true, false, ◌&&◌, cond, eqb, ltb, leb, List, [], ◌∷◌, ◌++◌, Option, Some, None, refl, sym, ap, subst, ◌∙◌, arith, inl, inr, append_assoc}
use Rattle.std.proofs.lemmas.Bool.{cases_eq, cases_lt, eq-eqb, ne_eqb, le-leb, lt-ltb, le-ltb, leb-true, eqb-true, and_parts}
use Rattle.std.proofs.lemmas.List.{append-nil}
use Rattle.sx_text.specs.declared.escaped_reader.Spot.{Spot}
use Rattle.sx_text.specs.declared.escaped_reader.Spot.TheVariants.{Between, Tail, Ampersand, WantsM, WantsP, Tee, Semi}
use Rattle.sx_text.specs.Machines.{Step, Ends, Goes, Fails, By, Leads, IsLive}
use Rattle.sx_text.specs.Escapes.{escape, escaped, escaped_text, lead_of, behind, Chars, Place, leads_to, escaped_step, escaped_at, escaped_after}
use Rattle.sx_text.proofs.Laws.{Reads}
use Rattle.sx_text.proofs.Literals.{after-reading}
use Rattle.sx_text.proofs.Machines.{machine-reading}

-- each text is read

pub plain : (b : ℕ) → (b ≡ 38 → ⊥) → (b ≡ 60 → ⊥) → (b ≡ 62 → ⊥) → escape b ≡ b ∷ []
plain b p q r = rw (ne_eqb b 38 p, ne_eqb b 60 q, ne_eqb b 62 r) refl

pub high_plain : (b : ℕ) → 128 ≤ b → escape b ≡ b ∷ []
high_plain b le = plain b (λ q. omega (arith, q, le)) (λ q. omega (arith, q, le)) (λ q. omega (arith, q, le))

ascii_step : (kept : List ℕ) (b : ℕ) → (b ≡ 38 → ⊥) → (b ≡ 60 → ⊥) → (b ≡ 62 → ⊥) → b < 128 → escaped_step (kept, Between) b ≡ Goes (kept ++ b ∷ [], Between)
ascii_step kept b p q r lt = rw (ne_eqb b 60 q, ne_eqb b 62 r, ne_eqb b 38 p, lt-ltb b 128 lt) refl

lead_step : (kept : List ℕ) (b : ℕ) (s : Spot) → 128 ≤ b → lead_of b ≡ Some s → escaped_step (kept, Between) b ≡ Goes (kept ++ b ∷ [], s)
lead_step kept b s le e =
    rw (ne_eqb b 60 (λ q. omega (arith, q, le)), ne_eqb b 62 (λ q. omega (arith, q, le)), ne_eqb b 38 (λ q. omega (arith, q, le)), le-ltb b 128 le, e) refl

tail_step : (kept : List ℕ) (low high more b : ℕ) → low ≤ b → b ≤ high → escaped_step (kept, Tail low high more) b ≡ Goes (kept ++ b ∷ [], behind more)
tail_step kept low high more b p q = rw (le-leb low b p, le-leb b high q) refl

-- a byte that stands for itself, and what follows it
on : (s t : Spot) (kept : List ℕ) (b : ℕ) (bs : List ℕ) → escape b ≡ b ∷ [] → escaped_step (kept, s) b ≡ Goes (kept ++ b ∷ [], t)
    → Leads escaped_step (kept ++ b ∷ [], t) (escaped bs ++ 60 ∷ []) ((kept ++ b ∷ []) ++ bs) → Leads escaped_step (kept, s) (escaped (b ∷ bs) ++ 60 ∷ []) (kept ++ b ∷ bs)
on s t kept b bs e step l =
    let v : (kept ++ b ∷ []) ++ bs ≡ kept ++ b ∷ bs = append_assoc kept (b ∷ []) bs in
    let w : escaped (b ∷ bs) ++ 60 ∷ [] ≡ b ∷ (escaped bs ++ 60 ∷ []) = ap (λ (x : List ℕ). (x ++ escaped bs) ++ 60 ∷ []) e in
    subst (λ (x : List ℕ). Leads escaped_step (kept, s) x (kept ++ b ∷ bs)) (sym w)
    (rw step (subst (λ (x : List ℕ). Leads escaped_step (kept ++ b ∷ [], t) (escaped bs ++ 60 ∷ []) x) v l))

-- a byte that is escaped
escape_38 : (kept bs : List ℕ) → Leads escaped_step (kept ++ 38 ∷ [], Between) (escaped bs ++ 60 ∷ []) ((kept ++ 38 ∷ []) ++ bs) → Leads escaped_step (kept, Between) (escaped (38 ∷ bs) ++ 60 ∷ []) (kept ++ 38 ∷ bs)
escape_38 kept bs l = subst (λ (x : List ℕ). Leads escaped_step (kept ++ 38 ∷ [], Between) (escaped bs ++ 60 ∷ []) x) (append_assoc kept (38 ∷ []) bs) l

escape_60 : (kept bs : List ℕ) → Leads escaped_step (kept ++ 60 ∷ [], Between) (escaped bs ++ 60 ∷ []) ((kept ++ 60 ∷ []) ++ bs) → Leads escaped_step (kept, Between) (escaped (60 ∷ bs) ++ 60 ∷ []) (kept ++ 60 ∷ bs)
escape_60 kept bs l = subst (λ (x : List ℕ). Leads escaped_step (kept ++ 60 ∷ [], Between) (escaped bs ++ 60 ∷ []) x) (append_assoc kept (60 ∷ []) bs) l

escape_62 : (kept bs : List ℕ) → Leads escaped_step (kept ++ 62 ∷ [], Between) (escaped bs ++ 60 ∷ []) ((kept ++ 62 ∷ []) ++ bs) → Leads escaped_step (kept, Between) (escaped (62 ∷ bs) ++ 60 ∷ []) (kept ++ 62 ∷ bs)
escape_62 kept bs l = subst (λ (x : List ℕ). Leads escaped_step (kept ++ 62 ∷ [], Between) (escaped bs ++ 60 ∷ []) x) (append_assoc kept (62 ∷ []) bs) l

-- the spots that come: a tail's range has a byte, and none of ASCII
abbrev pub IsHigh : Spot → Type 0
IsHigh (Tail low high more) = (128 ≤ low) × (low ≤ high)
IsHigh s = Unit {0}

abbrev LeadOk : Option Spot → Type 0
LeadOk None = Unit {0}
LeadOk (Some (Tail low high more)) = (128 ≤ low) × (low ≤ high)
LeadOk (Some s) = ⊥

either_ok : (c : Bool) (x y : Option Spot) → LeadOk x → LeadOk y → LeadOk (cond c x y)
either_ok true x y p q = p
either_ok false x y p q = q

lead_ok : (b : ℕ) → LeadOk (lead_of b)
unfolding lead_of
lead_ok b = either_ok (ltb b 194) None _ tt (either_ok (ltb b 224) (Some (Tail 128 191 0)) _ (omega arith, omega arith) (either_ok (eqb b 224) (Some (Tail 160 191 1)) _ (omega arith, omega arith)
    (either_ok (eqb b 237) (Some (Tail 128 159 1)) _ (omega arith, omega arith) (either_ok (ltb b 240) (Some (Tail 128 191 1)) _ (omega arith, omega arith) (either_ok (eqb b 240) (Some (Tail 144 191 2)) _ (omega arith, omega arith)
    (either_ok (ltb b 244) (Some (Tail 128 191 2)) _ (omega arith, omega arith) (either_ok (eqb b 244) (Some (Tail 128 143 2)) None (omega arith, omega arith) tt)))))))

high_from : (o : Option Spot) (s : Spot) → LeadOk o → o ≡ Some s → IsHigh s
high_from o (Tail low high more) h e = subst LeadOk e h
high_from o Between h e = tt
high_from o Ampersand h e = tt
high_from o WantsM h e = tt
high_from o WantsP h e = tt
high_from o (Tee code) h e = tt
high_from o (Semi code) h e = tt

pub lead_high : (b : ℕ) (s : Spot) → lead_of b ≡ Some s → IsHigh s
lead_high b s e = high_from (lead_of b) s (lead_ok b) e

pub behind_high : (n : ℕ) → IsHigh (behind n)
behind_high zero = tt
behind_high (suc n) = (omega arith, omega arith)

complete : (s : Spot) (kept u : List ℕ) → IsHigh s → Chars s u → Leads escaped_step (kept, s) (escaped u ++ 60 ∷ []) (kept ++ u)
unfolding Chars
complete Between kept [] high c = (refl, sym (append-nil kept))
complete Between kept (b ∷ u) high (inl p) = ascii kept b u p.0 (complete Between (kept ++ b ∷ []) u tt p.1)
  where
    ascii : (kept : List ℕ) (b : ℕ) (u : List ℕ) → b < 128 → Leads escaped_step (kept ++ b ∷ [], Between) (escaped u ++ 60 ∷ []) ((kept ++ b ∷ []) ++ u) → Leads escaped_step (kept, Between) (escaped (b ∷ u) ++ 60 ∷ []) (kept ++ b ∷ u)
    ascii kept b u lt l =
        elim (cases_eq b 38) [
          | inl e ↦ subst (λ (c : ℕ). Leads escaped_step (kept, Between) (escaped (c ∷ u) ++ 60 ∷ []) (kept ++ c ∷ u)) (sym e) (escape_38 kept u (subst (λ (c : ℕ). Leads escaped_step (kept ++ c ∷ [], Between) (escaped u ++ 60 ∷ []) ((kept ++ c ∷ []) ++ u)) e l))
          | inr p ↦ elim (cases_eq b 60) [
            | inl e ↦ subst (λ (c : ℕ). Leads escaped_step (kept, Between) (escaped (c ∷ u) ++ 60 ∷ []) (kept ++ c ∷ u)) (sym e) (escape_60 kept u (subst (λ (c : ℕ). Leads escaped_step (kept ++ c ∷ [], Between) (escaped u ++ 60 ∷ []) ((kept ++ c ∷ []) ++ u)) e l))
            | inr q ↦ elim (cases_eq b 62) [
              | inl e ↦ subst (λ (c : ℕ). Leads escaped_step (kept, Between) (escaped (c ∷ u) ++ 60 ∷ []) (kept ++ c ∷ u)) (sym e) (escape_62 kept u (subst (λ (c : ℕ). Leads escaped_step (kept ++ c ∷ [], Between) (escaped u ++ 60 ∷ []) ((kept ++ c ∷ []) ++ u)) e l))
              | inr r ↦ on Between Between kept b u (plain b p q r) (ascii_step kept b p q r lt) l
            ]
          ]
        ]
complete Between kept (b ∷ u) high (inr p) = on Between p.1 kept b u (high_plain b p.0) (lead_step kept b p.1 p.0 p.2) (complete p.1 (kept ++ b ∷ []) u (lead_high b p.1 p.2) p.3)
complete (Tail low top more) kept [] high c = absurd c
complete (Tail low top more) kept (b ∷ u) high c = on (Tail low top more) (behind more) kept b u (high_plain b (omega (arith, high.0, c.0))) (tail_step kept low top more b c.0 c.1) (complete (behind more) (kept ++ b ∷ []) u (behind_high more) c.2)
complete Ampersand kept u high c = absurd c
complete WantsM kept u high c = absurd c
complete WantsP kept u high c = absurd c
complete (Tee code) kept u high c = absurd c
complete (Semi code) kept u high c = absurd c

-- what is read is a text

abbrev SoundText : Spot → List ℕ → List ℕ → List ℕ → Type 0
SoundText s kept w v = (u : List ℕ) × (v ≡ kept ++ u) × Chars s u × (escaped u ++ 60 ∷ [] ≡ w)

abbrev SoundCode : ℕ → List ℕ → List ℕ → List ℕ → List ℕ → Type 0
SoundCode c left kept w v = (u : List ℕ) × (v ≡ kept ++ c ∷ u) × Chars Between u × (left ++ (escaped u ++ 60 ∷ []) ≡ w)

abbrev Sound : Spot → List ℕ → List ℕ → List ℕ → Type 0
Sound Between kept w v = SoundText Between kept w v
Sound (Tail low high more) kept w v = SoundText (Tail low high more) kept w v
Sound Ampersand kept w v = (c : ℕ) × (left : List ℕ) × (escape c ≡ 38 ∷ left) × (c < 128) × SoundCode c left kept w v
Sound WantsM kept w v = SoundCode 38 (codes "mp;") kept w v
Sound WantsP kept w v = SoundCode 38 (codes "p;") kept w v
Sound (Tee code) kept w v = SoundCode code (codes "t;") kept w v
Sound (Semi code) kept w v = SoundCode code (codes ";") kept w v

-- a byte that stands for itself, before a text
grown : (t : Spot) (kept : List ℕ) (b : ℕ) (w v : List ℕ) → SoundText t (kept ++ b ∷ []) w v → escape b ≡ b ∷ []
    → (u : List ℕ) × (v ≡ kept ++ b ∷ u) × Chars t u × (escaped (b ∷ u) ++ 60 ∷ [] ≡ b ∷ w)
grown t kept b w v h e = (h.0, h.1 ∙ append_assoc kept (b ∷ []) h.0, h.2, ap (λ (x : List ℕ). (x ++ escaped h.0) ++ 60 ∷ []) e ∙ ap (λ (x : List ℕ). b ∷ x) h.3)

from_behind : (n : ℕ) (kept w v : List ℕ) → Sound (behind n) kept w v → SoundText (behind n) kept w v
from_behind zero kept w v h = h
from_behind (suc n) kept w v h = h

abbrev Ih : List ℕ → List ℕ → Type 0
Ih w v = (s : Spot) (kept : List ℕ) → IsHigh s → Leads escaped_step (kept, s) w v → Sound s kept w v

led : (o : Option Spot) (b : ℕ) (kept w v : List ℕ) → Ih w v → 128 ≤ b → lead_of b ≡ o → LeadOk o → By (leads_to (kept ++ b ∷ []) o) (λ u. (w ≡ []) × (u ≡ v)) (λ t. Leads escaped_step t w v) → SoundText Between kept (b ∷ w) v
unfolding Chars
led None b kept w v ih le e ok l = absurd l
led (Some (Tail low high more)) b kept w v ih le e ok l =
    let g = grown (Tail low high more) kept b w v (ih (Tail low high more) (kept ++ b ∷ []) ok l) (high_plain b le) in
    (b ∷ g.0, g.1, inr (le, Tail low high more, e, g.2), g.3)
led (Some Between) b kept w v ih le e ok l = absurd ok
led (Some Ampersand) b kept w v ih le e ok l = absurd ok
led (Some WantsM) b kept w v ih le e ok l = absurd ok
led (Some WantsP) b kept w v ih le e ok l = absurd ok
led (Some (Tee code)) b kept w v ih le e ok l = absurd ok
led (Some (Semi code)) b kept w v ih le e ok l = absurd ok

unescaped : (kept w v : List ℕ) → Sound Ampersand kept w v → SoundText Between kept (38 ∷ w) v
unfolding Chars
unescaped kept w v h =
    let g : SoundCode h.0 h.1 kept w v = h.4 in
    (h.0 ∷ g.0, g.1, inl (h.3, g.2), ap (λ (x : List ℕ). (x ++ escaped g.0) ++ 60 ∷ []) h.2 ∙ ap (λ (x : List ℕ). 38 ∷ x) (append_assoc h.1 (escaped g.0) (60 ∷ []) ∙ g.3))

between : (b : ℕ) (kept w v : List ℕ) → Ih w v → Leads escaped_step (kept, Between) (b ∷ w) v → SoundText Between kept (b ∷ w) v
unfolding Chars
between b kept w v ih l =
    elim (cases_eq b 60) [
      | inl e ↦ let f = rw (eq-eqb b 60 e) at l in ([], sym f.1 ∙ sym (append-nil kept), tt, rw (e, f.0) refl)
      | inr q ↦ let l1 = rw (ne_eqb b 60 q) at l in elim (cases_eq b 62) [
        | inl e ↦ absurd (rw (eq-eqb b 62 e) at l1)
        | inr r ↦ let l2 = rw (ne_eqb b 62 r) at l1 in elim (cases_eq b 38) [
          | inl e ↦ subst (λ (c : ℕ). SoundText Between kept (c ∷ w) v) (sym e) (unescaped kept w v (ih Ampersand kept tt (rw (eq-eqb b 38 e) at l2)))
          | inr p ↦ let l3 = rw (ne_eqb b 38 p) at l2 in elim (cases_lt b 128) [
            | inl lt ↦
                let g = grown Between kept b w v (ih Between (kept ++ b ∷ []) tt (rw (lt-ltb b 128 lt) at l3)) (plain b p q r) in
                (b ∷ g.0, g.1, inl (lt, g.2), g.3)
            | inr le ↦ led (lead_of b) b kept w v ih le refl (lead_ok b) (rw (le-ltb b 128 le) at l3)
          ]
        ]
      ]
    ]

-- one letter of an escape
abbrev goes_to : Place → Step Place (List ℕ)
goes_to t = Goes t

abbrev no_step : Step Place (List ℕ)
no_step = Fails

passed : (c : Bool) (w v : List ℕ) (t : Place) → By (cond c (goes_to t) no_step) (λ u. (w ≡ []) × (u ≡ v)) (λ t. Leads escaped_step t w v) → (c ≡ true) × Leads escaped_step t w v
passed true w v t l = (refl, l)
passed false w v t l = absurd l

letter : (wanted b : ℕ) (w v : List ℕ) (t : Place) → By (cond (eqb b wanted) (goes_to t) no_step) (λ u. (w ≡ []) × (u ≡ v)) (λ t. Leads escaped_step t w v) → (b ≡ wanted) × Leads escaped_step t w v
letter wanted b w v t l = let p = passed (eqb b wanted) w v t l in (eqb-true b wanted p.0, p.1)

spelt : (code c b : ℕ) (left kept w v : List ℕ) → b ≡ c → SoundCode code left kept w v → SoundCode code (c ∷ left) kept (b ∷ w) v
spelt code c b left kept w v e h = (h.0, h.1, h.2, λ i. sym e i ∷ h.3 i)

tail : (low high more b : ℕ) (kept w v : List ℕ) → Ih w v → 128 ≤ low → Leads escaped_step (kept, Tail low high more) (b ∷ w) v → SoundText (Tail low high more) kept (b ∷ w) v
unfolding Chars
tail low high more b kept w v ih le l =
    let p = passed (leb low b && leb b high) w v (kept ++ b ∷ [], behind more) l in
    let q = and_parts (leb low b) (leb b high) p.0 in
    let h = from_behind more (kept ++ b ∷ []) w v (ih (behind more) (kept ++ b ∷ []) (behind_high more) p.1) in
    let g = grown (behind more) kept b w v h (high_plain b (omega (arith, le, leb-true low b q.0))) in
    (b ∷ g.0, g.1, (leb-true low b q.0, leb-true b high q.1, g.2), g.3)

amp : (b : ℕ) (kept w v : List ℕ) → Ih w v → Leads escaped_step (kept, Ampersand) (b ∷ w) v → Sound Ampersand kept (b ∷ w) v
amp b kept w v ih l =
    elim (cases_eq b 97) [
      | inl e ↦ (38, codes "amp;", refl, omega arith, spelt 38 97 b (codes "mp;") kept w v e (ih WantsM kept tt (rw (eq-eqb b 97 e) at l)))
      | inr p ↦ let l1 = rw (ne_eqb b 97 p) at l in elim (cases_eq b 108) [
        | inl e ↦ (60, codes "lt;", refl, omega arith, spelt 60 108 b (codes "t;") kept w v e (ih (Tee 60) kept tt (rw (eq-eqb b 108 e) at l1)))
        | inr q ↦
            let l2 = letter 103 b w v (kept, Tee 62) (rw (ne_eqb b 108 q) at l1) in
            (62, codes "gt;", refl, omega arith, spelt 62 103 b (codes "t;") kept w v l2.0 (ih (Tee 62) kept tt l2.1))
      ]
    ]

sound : (s : Spot) (kept w v : List ℕ) → IsHigh s → Leads escaped_step (kept, s) w v → Sound s kept w v
sound s kept [] v high l = absurd l
sound Between kept (b ∷ w) v high l = between b kept w v (λ t k h m. sound t k w v h m) l
sound (Tail low top more) kept (b ∷ w) v high l = tail low top more b kept w v (λ t k h m. sound t k w v h m) high.0 l
sound Ampersand kept (b ∷ w) v high l = amp b kept w v (λ t k h m. sound t k w v h m) l
sound WantsM kept (b ∷ w) v high l = let p = letter 109 b w v (kept, WantsP) l in spelt 38 109 b (codes "p;") kept w v p.0 (sound WantsP kept w v tt p.1)
sound WantsP kept (b ∷ w) v high l = let p = letter 112 b w v (kept, Semi 38) l in spelt 38 112 b (codes ";") kept w v p.0 (sound (Semi 38) kept w v tt p.1)
sound (Tee code) kept (b ∷ w) v high l = let p = letter 116 b w v (kept, Semi code) l in spelt code 116 b (codes ";") kept w v p.0 (sound (Semi code) kept w v tt p.1)
sound (Semi code) kept (b ∷ w) v high l =
    let p = letter 59 b w v (kept ++ code ∷ [], Between) l in
    let h = sound Between (kept ++ code ∷ []) w v tt p.1 in
    (h.0, h.1 ∙ append_assoc kept (code ∷ []) h.0, h.2, λ i. sym p.0 i ∷ h.3 i)

-- each spot has a text

abbrev GoesHigh : Step Place (List ℕ) → Type 0
GoesHigh (Ends v) = Unit {0}
GoesHigh (Goes t) = IsHigh t.1
GoesHigh Fails = Unit {0}

either_step : (c : Bool) (x y : Step Place (List ℕ)) → GoesHigh x → GoesHigh y → GoesHigh (cond c x y)
either_step true x y p q = p
either_step false x y p q = q

led_high : (o : Option Spot) (kept : List ℕ) → LeadOk o → GoesHigh (leads_to kept o)
led_high None kept h = tt
led_high (Some (Tail low high more)) kept h = h
led_high (Some Between) kept h = tt
led_high (Some Ampersand) kept h = tt
led_high (Some WantsM) kept h = tt
led_high (Some WantsP) kept h = tt
led_high (Some (Tee code)) kept h = tt
led_high (Some (Semi code)) kept h = tt

high_step : (s : Spot) (kept : List ℕ) (b : ℕ) → GoesHigh (escaped_step (kept, s) b)
high_step Between kept b =
    either_step (eqb b 60) (Ends kept) _ tt (either_step (eqb b 62) Fails _ tt (either_step (eqb b 38) (Goes (kept, Ampersand)) _ tt
    (either_step (ltb b 128) (Goes (kept ++ b ∷ [], Between)) (leads_to (kept ++ b ∷ []) (lead_of b)) tt (led_high (lead_of b) (kept ++ b ∷ []) (lead_ok b)))))
high_step (Tail low high more) kept b = either_step (leb low b && leb b high) (Goes (kept ++ b ∷ [], behind more)) Fails (behind_high more) tt
high_step Ampersand kept b = either_step (eqb b 97) (Goes (kept, WantsM)) _ tt (either_step (eqb b 108) (Goes (kept, Tee 60)) _ tt (either_step (eqb b 103) (Goes (kept, Tee 62)) Fails tt tt))
high_step WantsM kept b = either_step (eqb b 109) (Goes (kept, WantsP)) Fails tt tt
high_step WantsP kept b = either_step (eqb b 112) (Goes (kept, Semi 38)) Fails tt tt
high_step (Tee code) kept b = either_step (eqb b 116) (Goes (kept, Semi code)) Fails tt tt
high_step (Semi code) kept b = either_step (eqb b 59) (Goes (kept ++ code ∷ [], Between)) Fails tt tt

some_chars : (n : ℕ) → (u : List ℕ) × Chars (behind n) u
unfolding Chars
some_chars zero = ([], tt)
some_chars (suc n) = let h = some_chars n in (128 ∷ h.0, (omega arith, omega arith, h.1))

some_text : (s : Spot) (kept : List ℕ) → IsHigh s → (w : List ℕ) × (v : List ℕ) × Leads escaped_step (kept, s) w v
unfolding Chars
some_text Between kept h = (60 ∷ [], kept, (refl, refl))
some_text (Tail low high more) kept h =
    let t = some_chars more in
    (escaped (low ∷ t.0) ++ 60 ∷ [], kept ++ low ∷ t.0, complete (Tail low high more) kept (low ∷ t.0) h (omega arith, h.1, t.1))
some_text Ampersand kept h = (codes "lt;<", kept ++ 60 ∷ [], (refl, refl))
some_text WantsM kept h = (codes "mp;<", kept ++ 38 ∷ [], (refl, refl))
some_text WantsP kept h = (codes "p;<", kept ++ 38 ∷ [], (refl, refl))
some_text (Tee code) kept h = (codes "t;<", kept ++ code ∷ [], (refl, refl))
some_text (Semi code) kept h = (codes ";<", kept ++ code ∷ [], (refl, refl))

escaped_live : IsLive escaped_step (λ s. IsHigh s.1)
escaped_live = record {
  some = λ s h. some_text s.1 s.0 h;
  kept = λ s t b h e. subst GoesHigh e (high_step s.1 s.0 b);
}

-- the law of `escaped_at`
pub escaped-reading : Reads cases_eq escaped_text (Chars Between) escaped_at
unfolding escaped_at
escaped-reading = machine-reading cases_eq escaped_step (λ s. IsHigh s.1) ([], Between) escaped_text (Chars Between) escaped_live tt
    (λ w v l. let h = sound Between [] w v tt l in
    (subst (Chars Between) (sym h.1) h.2, ap escaped_text h.1 ∙ h.3))
    (λ v c. complete Between [] v tt c)

pub escaped_after-reading : (literal : List ℕ) → Reads cases_eq (λ bs. literal ++ escaped_text bs) (Chars Between) (escaped_after literal)
unfolding escaped_after Chars
escaped_after-reading literal k = after-reading k literal escaped_text (Chars Between) escaped_at ([], tt) (escaped-reading k)
