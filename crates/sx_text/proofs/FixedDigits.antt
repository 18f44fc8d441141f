-- Numbers in a fixed count of digits: the texts that are read.
use Rattle.std.proofs.Common.{◌≡◌, ℕ, zero, suc, ◌+◌, ◌-◌, ◌*◌, ◌/◌, ◌%◌, ◌^◌, ◌≤◌, ◌<◌, true, ◌&&◌, ltb, leb, List, [], ◌∷◌, ◌++◌, refl, sym, ap, subst, ◌∙◌, arith, inl, inr}
use Rattle.std.proofs.lemmas.Bool.{cases_eq, le-leb, lt-ltb, leb-true, ltb-true, and_parts, and_from, cond_both, cases_lt}
use Rattle.sx_text.specs.Machines.{Step, Ends, Goes, Fails, By, Leads, IsLive}
use Rattle.sx_text.specs.Numbers.{is_digit, IsFrom}
use Rattle.sx_text.specs.Digits.{digits_text, meets, digits_step, digits_at, digits_after}
use Rattle.sx_text.proofs.Laws.{Reads}
use Rattle.sx_text.proofs.Literals.{after-reading}
use Rattle.sx_text.proofs.Machines.{machine-reading}
use Rattle.sx_text.proofs.Numbers.{Within, within_tenth, within_wider, within_below, digit_of}

meets-from : (k low high a p m : ℕ) → low ≤ m → m ≤ high → Within k a p m → meets k low high a p ≡ true
unfolding meets Within
meets-from zero low high a p m lo hi h = and_from (leb a high) (ltb low (a + p)) (le-leb a high (omega (arith, h.0, hi))) (lt-ltb low (a + p) (omega (arith, h.1, lo)))
meets-from (suc k) low high a p m lo hi h = meets-from k low high (10 * a) (10 * p) m lo hi h

meets-gives : (k low high a p : ℕ) → low ≤ high → 0 < p → meets k low high a p ≡ true → (m : ℕ) × (low ≤ m) × (m ≤ high) × Within k a p m
unfolding meets Within
meets-gives zero low high a p le pos e =
    let h = and_parts (leb a high) (ltb low (a + p)) e in
    elim (cases_lt low a) [
      | inl low_a ↦ (a, omega (arith, low_a), leb-true a high h.0, (omega arith, omega (arith, pos)))
      | inr a_low ↦ (low, omega arith, le, (a_low, ltb-true low (a + p) h.1))
    ]
meets-gives (suc k) low high a p le pos e = meets-gives k low high (10 * a) (10 * p) le (omega (arith, pos)) e

-- the first of the digits
first_of : (k v d n : ℕ) → d < 10 → Within k (v * 10 + d) 1 n → digits_text (suc k) n ≡ (48 + d) ∷ digits_text k n
unfolding Within
first_of zero v d n lt h = let e : n % 10 ≡ d = omega (arith, h.0, h.1, lt) in rw e refl
first_of (suc k) v d n lt h = ap (λ (x : List ℕ). x ++ (48 + n % 10) ∷ []) (first_of k v d (n / 10) lt (within_tenth k (v * 10 + d) 1 n h))

-- ---- each number in the limits is read

step_goes : (low high k v d : ℕ) → d < 10 → meets (suc k) low high (v * 10 + d) 1 ≡ true → digits_step low high (suc k, v) (48 + d) ≡ Goes (k, v * 10 + d)
step_goes low high k v d lt ok =
    let e : (48 + d) - 48 ≡ d = omega arith in
    rw (le-leb 48 (48 + d) (omega arith), le-leb (48 + d) 57 (omega (arith, lt)), e, ok) refl

step_ends : (low high v d : ℕ) → d < 10 → meets 0 low high (v * 10 + d) 1 ≡ true → digits_step low high (0, v) (48 + d) ≡ Ends (v * 10 + d)
step_ends low high v d lt ok =
    let e : (48 + d) - 48 ≡ d = omega arith in
    rw (le-leb 48 (48 + d) (omega arith), le-leb (48 + d) 57 (omega (arith, lt)), e, ok) refl

untenth : (j a p m : ℕ) → Within j a p (m / 10) → Within (suc j) a p m
unfolding Within
untenth zero a p m h = (omega (arith, h.0, h.1), omega (arith, h.0, h.1))
untenth (suc j) a p m h = untenth j (10 * a) (10 * p) m h

at_zero : (a n : ℕ) → Within 0 a 1 n → a ≡ n
unfolding Within
at_zero a n h = omega (arith, h.0, h.1)

widened : (k v d n : ℕ) → d < 10 → Within k (v * 10 + d) 1 n → Within (suc k) v 1 n
unfolding Within
widened k v d n lt h = within_wider k (v * 10 + d) 1 (10 * v) (10 * 1) n (omega arith) (omega (arith, lt)) h

at_itself : (a n : ℕ) → n ≡ a → Within 0 a 1 n
unfolding Within
at_itself a n e = (omega (arith, e), omega (arith, e))

pair_same : (a b : ℕ) (x y : List ℕ) → a ≡ b → x ≡ y → a ∷ x ≡ b ∷ y
pair_same a b x y e f = cc

all_within : (k n : ℕ) → n < 10 ^ k → Within k 0 1 n
unfolding Within
all_within zero n lt = (omega arith, omega (arith, lt))
all_within (suc k) n lt = untenth k 0 1 n (all_within k (n / 10) (omega (arith, lt)))

-- the digit that comes next, from the state's number
digit_next : (k v n : ℕ) → Within (suc k) v 1 n → (d : ℕ) × (d < 10) × Within k (v * 10 + d) 1 n
unfolding Within
digit_next zero v n h = (n - v * 10, omega (arith, h.0, h.1), (omega (arith, h.0), omega (arith, h.0, h.1)))
digit_next (suc k) v n h =
    let r = digit_next k v (n / 10) (within_tenth (suc k) v 1 n h) in
    (r.0, r.1, untenth k (v * 10 + r.0) 1 n r.2)

complete : (low high k v n : ℕ) → IsFrom low high n → Within (suc k) v 1 n → Leads (digits_step low high) (k, v) (digits_text (suc k) n) n
complete low high zero v n fits h =
    let r = digit_next 0 v n h in
    let is : v * 10 + r.0 ≡ n = at_zero (v * 10 + r.0) n r.2 in
    subst (λ (x : List ℕ). Leads (digits_step low high) (0, v) x n) (sym (first_of 0 v r.0 n r.1 r.2))
    (rw (step_ends low high v r.0 r.1 (meets-from 0 low high (v * 10 + r.0) 1 n fits.0 fits.1 r.2)) (refl, is))
complete low high (suc k) v n fits h =
    let r = digit_next (suc k) v n h in
    subst (λ (x : List ℕ). Leads (digits_step low high) (suc k, v) x n) (sym (first_of (suc k) v r.0 n r.1 r.2))
    (rw (step_goes low high k v r.0 r.1 (meets-from (suc k) low high (v * 10 + r.0) 1 n fits.0 fits.1 r.2)) (complete low high k (v * 10 + r.0) n fits r.2))

-- ---- what is read is one

abbrev Does : ℕ → ℕ → ℕ → ℕ → ℕ → Step (ℕ × ℕ) ℕ → Type 0
Does low high k v b (Ends n) = (d : ℕ) × (b ≡ 48 + d) × (d < 10) × (k ≡ 0) × (meets 0 low high (v * 10 + d) 1 ≡ true) × (n ≡ v * 10 + d)
Does low high k v b (Goes t) = (d : ℕ) × (b ≡ 48 + d) × (d < 10) × (k ≡ suc t.0) × (meets k low high (v * 10 + d) 1 ≡ true) × (t.1 ≡ v * 10 + d)
Does low high k v b Fails = Unit {0}

does : (low high k v b : ℕ) → Does low high k v b (digits_step low high (k, v) b)
does low high zero v b =
    cond_both (is_digit b && meets 0 low high (v * 10 + (b - 48)) 1) (Ends (v * 10 + (b - 48))) Fails (Does low high 0 v b)
    (λ t. let p = and_parts (is_digit b) (meets 0 low high (v * 10 + (b - 48)) 1) t in let d = digit_of b p.0 in
    (b - 48, omega (arith, d.is), omega (arith, d.is, d.lt), refl, p.1, refl)) (λ f. tt)
does low high (suc k) v b =
    cond_both (is_digit b && meets (suc k) low high (v * 10 + (b - 48)) 1) (Goes (k, v * 10 + (b - 48))) Fails (Does low high (suc k) v b)
    (λ t. let p = and_parts (is_digit b) (meets (suc k) low high (v * 10 + (b - 48)) 1) t in let d = digit_of b p.0 in
    (b - 48, omega (arith, d.is), omega (arith, d.is, d.lt), refl, p.1, refl)) (λ f. tt)

IsLive_at : ℕ → ℕ → ℕ × ℕ → Type 0
IsLive_at low high s = meets (suc s.0) low high s.1 1 ≡ true

sound : (low high k v : ℕ) (w : List ℕ) (n : ℕ) → low ≤ high → Leads (digits_step low high) (k, v) w n → IsFrom low high n × Within (suc k) v 1 n × (digits_text (suc k) n ≡ w)
sound low high k v [] n le l = absurd l
sound low high k v (b ∷ w) n le l = go (λ t m. sound low high t.0 t.1 w n le m) (digits_step low high (k, v) b) (does low high k v b) l
  where
    one : (d m : ℕ) → b ≡ 48 + d → d < 10 → k ≡ 0 → meets 0 low high (v * 10 + d) 1 ≡ true → m ≡ v * 10 + d → w ≡ [] → m ≡ n
        → IsFrom low high n × Within (suc k) v 1 n × (digits_text (suc k) n ≡ b ∷ w)
    one d m is lt zero_k ok e w_is m_is =
        let f : n ≡ v * 10 + d = sym m_is ∙ e in
        let g = meets-gives 0 low high (v * 10 + d) 1 le (omega arith) ok in
        let at : v * 10 + d ≡ g.0 = at_zero (v * 10 + d) g.0 g.3 in
        let here : Within 0 (v * 10 + d) 1 n = at_itself (v * 10 + d) n f in
        let up : Within 1 v 1 n = widened 0 v d n lt here in (
          (omega (arith, g.1, at, f), omega (arith, g.2, at, f)),
          subst (λ (j : ℕ). Within (suc j) v 1 n) (sym zero_k) up,
          subst (λ (j : ℕ). digits_text (suc j) n ≡ b ∷ w) (sym zero_k) (first_of 0 v d n lt here ∙ pair_same (48 + d) b [] w (sym is) (sym w_is)),
        )

    more : ((t : ℕ × ℕ) → Leads (digits_step low high) t w n → IsFrom low high n × Within (suc t.0) t.1 1 n × (digits_text (suc t.0) n ≡ w))
        → (t : ℕ × ℕ) (d : ℕ) → b ≡ 48 + d → d < 10 → k ≡ suc t.0 → t.1 ≡ v * 10 + d → Leads (digits_step low high) t w n
        → IsFrom low high n × Within (suc k) v 1 n × (digits_text (suc k) n ≡ b ∷ w)
    more ih t d is lt k_is v_is l =
        let h = ih t l in
        let here : Within k (v * 10 + d) 1 n = subst (λ (j : ℕ). Within j (v * 10 + d) 1 n) (sym k_is) (subst (λ (a : ℕ). Within (suc t.0) a 1 n) v_is h.1) in
        (h.0, widened k v d n lt here, first_of k v d n lt here ∙ pair_same (48 + d) b (digits_text k n) w (sym is) (subst (λ (j : ℕ). digits_text j n ≡ w) (sym k_is) h.2))

    go : ((t : ℕ × ℕ) → Leads (digits_step low high) t w n → IsFrom low high n × Within (suc t.0) t.1 1 n × (digits_text (suc t.0) n ≡ w))
        → (x : Step (ℕ × ℕ) ℕ) → Does low high k v b x → By x (λ u. (w ≡ []) × (u ≡ n)) (λ t. Leads (digits_step low high) t w n)
        → IsFrom low high n × Within (suc k) v 1 n × (digits_text (suc k) n ≡ b ∷ w)
    go ih (Ends m) d l = one d.0 m d.1 d.2 d.3 d.4 d.5 l.0 l.1
    go ih (Goes t) d l = more ih t d.0 d.1 d.2 d.3 d.5 l
    go ih Fails d l = absurd l

digits_live : (low high : ℕ) → low ≤ high → IsLive (digits_step low high) (IsLive_at low high)
unfolding IsLive_at
digits_live low high le = record { some = some; kept = kept }
  where
    some : (s : ℕ × ℕ) → IsLive_at low high s → (w : List ℕ) × (n : ℕ) × Leads (digits_step low high) s w n
    some s live =
        let g = meets-gives (suc s.0) low high s.1 1 le (omega arith) live in
        (digits_text (suc s.0) g.0, g.0, complete low high s.0 s.1 g.0 (g.1, g.2) g.3)

    from_does : (k v b : ℕ) (t : ℕ × ℕ) (x : Step (ℕ × ℕ) ℕ) → Does low high k v b x → x ≡ Goes t → IsLive_at low high t
    from_does k v b t (Ends m) d e = absurd cc
    from_does k v b t (Goes u) d e =
        let same : u ≡ t = cc in
        subst (IsLive_at low high) same (subst (λ (a : ℕ). meets (suc u.0) low high a 1 ≡ true) (sym d.5) (subst (λ (j : ℕ). meets j low high (v * 10 + d.0) 1 ≡ true) d.3 d.4))
    from_does k v b t Fails d e = absurd cc

    kept : (s t : ℕ × ℕ) (b : ℕ) → IsLive_at low high s → digits_step low high s b ≡ Goes t → IsLive_at low high t
    kept s t b live e = from_does s.0 s.1 b t (digits_step low high s b) (does low high s.0 s.1 b) e

-- the law of `digits_at`: all numbers up to `high` have so few digits
pub digits-reading : (more low high : ℕ) → low ≤ high → high < 10 ^ suc more → Reads cases_eq (digits_text (suc more)) (IsFrom low high) (digits_at more low high)
unfolding IsLive_at digits_at
digits-reading more low high le short =
    machine-reading cases_eq (digits_step low high) (IsLive_at low high) (more, 0) (digits_text (suc more)) (IsFrom low high)
    (digits_live low high le) (meets-from (suc more) low high 0 1 low (omega arith) le (all_within (suc more) low (omega (arith, le, short))))
    (λ w n l. let h = sound low high more 0 w n le l in (h.0, h.2))
    (λ n fits. complete low high more 0 n fits (all_within (suc more) n (omega (arith, fits.1, short))))

pub digits_after-reading : (literal : List ℕ) (more low high : ℕ) → low ≤ high → high < 10 ^ suc more → Reads cases_eq (λ n. literal ++ digits_text (suc more) n) (IsFrom low high) (digits_after literal more low high)
unfolding digits_after
digits_after-reading literal more low high le short k =
    after-reading k literal (digits_text (suc more)) (IsFrom low high) (digits_at more low high) (low, (omega arith, le)) (digits-reading more low high le short k)

-- ---- what the code uses

pub meets_is_below : (k low high a : ℕ) → low ≤ high → meets k low high a 1 ≡ true → a < high + 1
meets_is_below k low high a le e = let g = meets-gives k low high a 1 le (omega arith) e in omega (arith, within_below k a 1 g.0 g.3, g.2)

pub few_digits : (more high : ℕ) → more ≤ 6 → high < 10 ^ suc more → high < 10 ^ 7
few_digits zero high le h = omega (arith, h)
few_digits (suc zero) high le h = omega (arith, h)
few_digits (suc (suc zero)) high le h = omega (arith, h)
few_digits (suc (suc (suc zero))) high le h = omega (arith, h)
few_digits (suc (suc (suc (suc zero)))) high le h = omega (arith, h)
few_digits (suc (suc (suc (suc (suc zero))))) high le h = omega (arith, h)
few_digits (suc (suc (suc (suc (suc (suc zero)))))) high le h = omega (arith, h)
few_digits (suc (suc (suc (suc (suc (suc (suc n))))))) high le h = absurd (omega (arith, le))
