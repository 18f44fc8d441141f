-- Numbers in a fixed count of hexadecimal digits: the texts that are read.
use Rattle.std.proofs.Common.{◌≡◌, ℕ, zero, suc, ◌+◌, ◌-◌, ◌*◌, ◌/◌, ◌%◌, ◌^◌, ◌≤◌, ◌<◌, Bool, true, false, not, ◌&&◌, ◌||◌, ltb, leb, eqb, List, [], ◌∷◌, ◌++◌, refl, sym, ap, subst, ◌∙◌, arith, inl, inr}
use Rattle.std.proofs.lemmas.Bool.{cases_eq, leb-true, ltb-true, eqb-true, and_parts, or_cases, cond_both, agree_below_at}
use Rattle.sx_text.specs.Machines.{Step, Ends, Goes, Fails, By, Leads}
use Rattle.sx_text.specs.Hex.{hex_digit, hex_text, is_hex_digit, hex_value, hex_step, hex_at, hex_after}
use Rattle.sx_text.specs.Steps.{HasRoom}
use Rattle.sx_text.proofs.Laws.{Reads}
use Rattle.sx_text.proofs.Literals.{after-reading}
use Rattle.sx_text.proofs.Machines.{machine-reading}

-- ---- digits and their codes

abbrev is_right : ℕ → Bool
is_right d = is_hex_digit (hex_digit d) && eqb (hex_value (hex_digit d)) d

abbrev is_back : ℕ → Bool
is_back b = not (is_hex_digit b) || (ltb (hex_value b) 16 && eqb (hex_digit (hex_value b)) b)

abbrev yes : ℕ → Bool
yes n = true

coded : (d : ℕ) → d < 16 → (is_hex_digit (hex_digit d) ≡ true) × (hex_value (hex_digit d) ≡ d)
coded d lt =
    let p = and_parts (is_hex_digit (hex_digit d)) (eqb (hex_value (hex_digit d)) d) (agree_below_at is_right yes 16 d refl lt) in
    (p.0, eqb-true (hex_value (hex_digit d)) d p.1)

code_below : (b : ℕ) → is_hex_digit b ≡ true → b < 71
code_below b e = elim (or_cases (leb 48 b && leb b 57) (leb 65 b && leb b 70) e) [
  | inl p ↦ omega (arith, leb-true b 57 (and_parts (leb 48 b) (leb b 57) p).1)
  | inr p ↦ omega (arith, leb-true b 70 (and_parts (leb 65 b) (leb b 70) p).1)
]

or_true : (x y : Bool) → x ≡ true → (not x || y) ≡ true → y ≡ true
or_true true y e f = f
or_true false y e f = absurd cc

pub worth : (b : ℕ) → is_hex_digit b ≡ true → (hex_value b < 16) × (hex_digit (hex_value b) ≡ b)
worth b e =
    let p = and_parts (ltb (hex_value b) 16) (eqb (hex_digit (hex_value b)) b) (or_true (is_hex_digit b) _ e (agree_below_at is_back yes 71 b refl (code_below b e))) in
    (ltb-true (hex_value b) 16 p.0, eqb-true (hex_digit (hex_value b)) b p.1)

-- ---- the digits in front

-- the number without its last k digits
abbrev front_of : ℕ → ℕ → ℕ
front_of zero n = n
front_of (suc k) n = front_of k (n / 16)

front_next : (k n : ℕ) → front_of (suc k) n ≡ front_of k n / 16
front_next zero n = refl
front_next (suc k) n = front_next k (n / 16)

front_zero : (k n : ℕ) → front_of k n ≡ 0 → n < 16 ^ k
front_zero zero n e = omega (arith, e)
front_zero (suc k) n e = omega (arith, front_zero k (n / 16) e)

zero_front : (k n : ℕ) → n < 16 ^ k → front_of k n ≡ 0
zero_front zero n lt = omega (arith, lt)
zero_front (suc k) n lt = zero_front k (n / 16) (omega (arith, lt))

-- the first of the digits
first_of : (k n : ℕ) → hex_text (suc k) n ≡ hex_digit (front_of k n % 16) ∷ hex_text k n
first_of zero n = refl
first_of (suc k) n = ap (λ (x : List ℕ). x ++ hex_digit (n % 16) ∷ []) (first_of k (n / 16))

pair_same : (a b : ℕ) (x y : List ℕ) → a ≡ b → x ≡ y → a ∷ x ≡ b ∷ y
pair_same a b x y e f = cc

-- ---- each number is read

complete : (k v n : ℕ) → front_of (suc k) n ≡ v → Leads hex_step (k, v) (hex_text (suc k) n) n
complete zero v n e =
    let c = coded (n % 16) (omega arith) in
    let is : v * 16 + n % 16 ≡ n = omega (arith, e) in
    rw (c.0, c.1) (refl, is)
complete (suc k) v n e =
    let c = coded (front_of (suc k) n % 16) (omega arith) in
    let is : front_of (suc k) n ≡ v * 16 + front_of (suc k) n % 16 = omega (arith, e, front_next (suc k) n) in
    subst (λ (x : List ℕ). Leads hex_step (suc k, v) x n) (sym (first_of (suc k) n))
    (rw (c.0, c.1) (complete k (v * 16 + front_of (suc k) n % 16) n is))

-- ---- what is read is one

abbrev Does : ℕ → ℕ → ℕ → Step (ℕ × ℕ) ℕ → Type 0
Does k v b (Ends n) = (d : ℕ) × (b ≡ hex_digit d) × (d < 16) × (k ≡ 0) × (n ≡ v * 16 + d)
Does k v b (Goes t) = (d : ℕ) × (b ≡ hex_digit d) × (d < 16) × (k ≡ suc t.0) × (t.1 ≡ v * 16 + d)
Does k v b Fails = Unit {0}

does : (k v b : ℕ) → Does k v b (hex_step (k, v) b)
does zero v b =
    cond_both (is_hex_digit b) (Ends (v * 16 + hex_value b)) Fails (Does 0 v b)
    (λ t. let w = worth b t in (hex_value b, sym w.1, w.0, refl, refl)) (λ f. tt)
does (suc k) v b =
    cond_both (is_hex_digit b) (Goes (k, v * 16 + hex_value b)) Fails (Does (suc k) v b)
    (λ t. let w = worth b t in (hex_value b, sym w.1, w.0, refl, refl)) (λ f. tt)

sound : (k v : ℕ) (w : List ℕ) (n : ℕ) → Leads hex_step (k, v) w n → (front_of (suc k) n ≡ v) × (hex_text (suc k) n ≡ w)
sound k v [] n l = absurd l
sound k v (b ∷ w) n l = go (λ t m. sound t.0 t.1 w n m) (hex_step (k, v) b) (does k v b) l
  where
    one : (d m : ℕ) → b ≡ hex_digit d → d < 16 → k ≡ 0 → m ≡ v * 16 + d → w ≡ [] → m ≡ n → (front_of (suc k) n ≡ v) × (hex_text (suc k) n ≡ b ∷ w)
    one d m is lt zero_k e w_is m_is =
        let f : n ≡ v * 16 + d = sym m_is ∙ e in
        let last : n % 16 ≡ d = omega (arith, f, lt) in
        subst (λ (j : ℕ). (front_of (suc j) n ≡ v) × (hex_text (suc j) n ≡ b ∷ w)) (sym zero_k)
        (omega (arith, f, lt), pair_same (hex_digit (n % 16)) b [] w (ap hex_digit last ∙ sym is) (sym w_is))

    more : ((t : ℕ × ℕ) → Leads hex_step t w n → (front_of (suc t.0) n ≡ t.1) × (hex_text (suc t.0) n ≡ w))
        → (t : ℕ × ℕ) (d : ℕ) → b ≡ hex_digit d → d < 16 → k ≡ suc t.0 → t.1 ≡ v * 16 + d → Leads hex_step t w n
        → (front_of (suc k) n ≡ v) × (hex_text (suc k) n ≡ b ∷ w)
    more ih t d is lt k_is v_is l =
        let h = ih t l in
        let front : front_of k n ≡ v * 16 + d = ap (λ (j : ℕ). front_of j n) k_is ∙ h.0 ∙ v_is in
        let last : front_of k n % 16 ≡ d = omega (arith, front, lt) in (
          omega (arith, front_next k n, front, lt),
          first_of k n ∙ pair_same (hex_digit (front_of k n % 16)) b (hex_text k n) w (ap hex_digit last ∙ sym is) (ap (λ (j : ℕ). hex_text j n) k_is ∙ h.1),
        )

    go : ((t : ℕ × ℕ) → Leads hex_step t w n → (front_of (suc t.0) n ≡ t.1) × (hex_text (suc t.0) n ≡ w))
        → (x : Step (ℕ × ℕ) ℕ) → Does k v b x → By x (λ u. (w ≡ []) × (u ≡ n)) (λ t. Leads hex_step t w n)
        → (front_of (suc k) n ≡ v) × (hex_text (suc k) n ≡ b ∷ w)
    go ih (Ends m) d l = one d.0 m d.1 d.2 d.3 d.4 l.0 l.1
    go ih (Goes t) d l = more ih t d.0 d.1 d.2 d.3 d.4 l
    go ih Fails d l = absurd l

-- zeros lead to the end from each state
some : (k v : ℕ) → (w : List ℕ) × (n : ℕ) × Leads hex_step (k, v) w n
some zero v = (48 ∷ [], v * 16 + 0, (refl, refl))
some (suc k) v = let r = some k (v * 16 + 0) in (48 ∷ r.0, r.1, r.2)

-- the law of `hex_at`
pub hex-reading : (more : ℕ) → Reads cases_eq (hex_text (suc more)) (λ n. n < 16 ^ suc more) (hex_at more)
unfolding hex_at
hex-reading more =
    machine-reading cases_eq hex_step (λ s. Unit {0}) (more, 0) (hex_text (suc more)) (λ n. n < 16 ^ suc more)
    (record { some = λ s live. some s.0 s.1; kept = λ s t b live e. tt }) tt
    (λ w n l. let h = sound more 0 w n l in (front_zero (suc more) n h.0, h.1))
    (λ n fits. complete more 0 n (zero_front (suc more) n fits))

pub hex_after-reading : (literal : List ℕ) (more : ℕ) → Reads cases_eq (λ n. literal ++ hex_text (suc more) n) (λ n. n < 16 ^ suc more) (hex_after literal more)
unfolding hex_after
hex_after-reading literal more k =
    after-reading k literal (hex_text (suc more)) (λ n. n < 16 ^ suc more) (hex_at more) (0, front_zero (suc more) 0 (zero_all more)) (hex-reading more k)
  where
    zero_all : (k : ℕ) → front_of (suc k) 0 ≡ 0
    zero_all zero = refl
    zero_all (suc k) = zero_all k

-- ---- what the code uses

pub hex_value_below : (b : ℕ) → is_hex_digit b ≡ true → hex_value b < 16
hex_value_below b e = (worth b e).0

pub room_less : (k u v : ℕ) → u ≤ v → HasRoom k v → HasRoom k u
unfolding HasRoom
room_less zero u v le h = omega (arith, le, h)
room_less (suc k) u v le h = room_less k (16 * u + 15) (16 * v + 15) (omega (arith, le)) h

pub room_is_small : (k v : ℕ) → HasRoom k v → v < 2 ^ 60
unfolding HasRoom
room_is_small zero v h = h
room_is_small (suc k) v h = omega (arith, room_is_small k (16 * v + 15) h)

pub room_goes : (k v d : ℕ) → (k ≡ 0 → ⊥) → d < 16 → HasRoom k v → HasRoom (k - 1) (v * 16 + d)
unfolding HasRoom
room_goes zero v d left lt h = absurd (left refl)
room_goes (suc k) v d left lt h =
    let e : k ≡ suc k - 1 = omega arith in
    subst (λ (i : ℕ). HasRoom i (v * 16 + d)) e (room_less k (v * 16 + d) (16 * v + 15) (omega (arith, lt)) h)

pub room_at_first : (k : ℕ) → k ≤ 15 → HasRoom k 0
unfolding HasRoom
room_at_first k le = down (15 - k) k (omega (arith, le))
  where
    down : (j k : ℕ) → j + k ≡ 15 → HasRoom k 0
    down zero k e = let is : 15 ≡ k = omega (arith, e) in subst (λ (i : ℕ). HasRoom i 0) is (omega arith)
    down (suc j) k e = room_less k 0 15 (omega arith) (down j (suc k) (omega (arith, e)))
