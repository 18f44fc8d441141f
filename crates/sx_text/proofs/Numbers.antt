-- The numbers between two limits, and the texts that are read.
use Rattle.std.proofs.Common.{◌≡◌, ℕ, zero, suc, ◌+◌, ◌-◌, ◌*◌, ◌/◌, ◌%◌, ◌^◌, ◌≤◌, ◌<◌, ◌⊎◌, true, false, ◌&&◌, ltb, leb, List, [], ◌∷◌, ◌++◌, Option, Some, None, refl, sym, ap, subst, ◌∙◌, arith, inl, inr, append_assoc}
use Rattle.std.proofs.lemmas.Bool.{cases_eq, cases_lt, eq-eqb, ne_eqb, le-leb, lt-leb, lt-ltb, le-ltb, leb-true, ltb-true, and_parts, and_from, or_cases, or_right, cond_both, eqb-true}
use Rattle.std.specs.Prelude.{map}
use Rattle.std.specs.Fmt.{decimal}
use Rattle.std.specs.Int.Digits.{digits_of}
use Rattle.std.proofs.lemmas.Int.Digits.{digits_of_step}
use Rattle.std.proofs.lemmas.Fmt.{decimal_digit, decimal-digits_of}
use Rattle.std.proofs.lemmas.List.{append-nil, map-append}
use Rattle.sx_text.specs.Machines.{Step, Ends, Goes, Fails, By, Leads, IsLive}
use Rattle.sx_text.specs.Numbers.{reaches, may_begin, is_digit, may_be_first, number_step, number_at, number_after, number_text, IsFrom}
use Rattle.sx_text.proofs.Laws.{Reads}
use Rattle.sx_text.proofs.Literals.{after-reading}
use Rattle.sx_text.proofs.Machines.{machine-reading}

-- m lies among the p numbers from a on, with j more digits
unfoldable pub Within : ℕ → ℕ → ℕ → ℕ → Type 0
Within zero a p m = (a ≤ m) × (m < a + p)
Within (suc j) a p m = Within j (10 * a) (10 * p) m

pub within_tenth : (j a p m : ℕ) → Within (suc j) a p m → Within j a p (m / 10)
unfolding Within
within_tenth zero a p m h = (omega (arith, h.0, h.1), omega (arith, h.0, h.1))
within_tenth (suc j) a p m h = within_tenth j (10 * a) (10 * p) m h

pub within_wider : (j a p b q m : ℕ) → b ≤ a → a + p ≤ b + q → Within j a p m → Within j b q m
unfolding Within
within_wider zero a p b q m l r h = (omega (arith, h.0, l), omega (arith, h.1, r))
within_wider (suc j) a p b q m l r h = within_wider j (10 * a) (10 * p) (10 * b) (10 * q) m (omega (arith, l)) (omega (arith, r)) h

pub within_below : (j a p m : ℕ) → Within j a p m → a ≤ m
unfolding Within
within_below zero a p m h = h.0
within_below (suc j) a p m h = omega (arith, within_below j (10 * a) (10 * p) m h)

reaches-from : (n low high a p j m : ℕ) → j < n → low ≤ m → m ≤ high → Within j a p m → reaches n low high a p ≡ true
unfolding Within reaches
reaches-from zero low high a p j m lt lo hi h = absurd (omega (arith, lt))
reaches-from (suc n) low high a p zero m lt lo hi h =
    rw (le-leb a high (omega (arith, h.0, hi)), lt-ltb low (a + p) (omega (arith, h.1, lo))) refl
reaches-from (suc n) low high a p (suc j) m lt lo hi h =
    let below = within_below (suc j) a p m h in
    rw (le-leb a high (omega (arith, below, hi))) (or_right (ltb low (a + p)) _ (reaches-from n low high (10 * a) (10 * p) j m (omega (arith, lt)) lo hi h))

reaches-gives : (n low high a p : ℕ) → low ≤ high → 0 < p → reaches n low high a p ≡ true → (j m : ℕ) × (j < n) × (low ≤ m) × (m ≤ high) × Within j a p m
unfolding Within reaches
reaches-gives zero low high a p le pos e = absurd cc
reaches-gives (suc n) low high a p le pos e =
    elim (cases_lt high a) [
      | inl over ↦ absurd (let f = rw (lt-leb a high over) at e in cc)
      | inr under ↦
          let f = rw (le-leb a high under) at e in
          elim (or_cases (ltb low (a + p)) (reaches n low high (10 * a) (10 * p)) f) [
            | inl here ↦
                let lt = ltb-true low (a + p) here in
                elim (cases_lt low a) [
                  | inl low_a ↦ (0, a, omega arith, omega (arith, low_a), under, (omega arith, omega (arith, pos)))
                  | inr a_low ↦ (0, low, omega arith, omega arith, le, (a_low, lt))
                ]
            | inr there ↦
                let h = reaches-gives n low high (10 * a) (10 * p) le (omega (arith, pos)) there in
                (suc h.0, h.1, omega (arith, h.2), h.3, h.4, h.5)
          ]
    ]

-- the digits of a number

decimal_push : (v d : ℕ) → 0 < v → d < 10 → v * 10 + d < 2 ^ 64 → decimal (v * 10 + d) ≡ decimal v ++ (48 + d) ∷ []
decimal_push v d pos lt fits =
    let q : (v * 10 + d) / 10 ≡ v = omega (arith, lt) in
    let r : (v * 10 + d) % 10 ≡ d = omega (arith, lt) in
    let step = digits_of_step 10 (v * 10 + d) (omega arith) (omega (arith, pos)) in
    decimal-digits_of (v * 10 + d) (omega (arith, pos)) fits
    ∙ ap (map (λ d. 48 + d)) step
    ∙ rw (q, r) (map-append (λ d. 48 + d) (digits_of 10 v) (d ∷ []) ∙ ap (λ (x : List ℕ). x ++ (48 + d) ∷ []) (sym (decimal-digits_of v pos (omega (arith, fits)))))

-- the first digit
first_digit : (k n : ℕ) → 0 < n → n < 10 ^ suc k → (d j : ℕ) × (0 < d) × (d < 10) × (j ≤ k) × Within j d 1 n
unfolding Within
first_digit zero n pos lt = (n, 0, pos, omega (arith, lt), omega arith, (omega arith, omega arith))
first_digit (suc k) n pos lt =
    elim (cases_lt n 10) [
      | inl small ↦ (n, 0, pos, small, omega arith, (omega arith, omega arith))
      | inr big ↦
          let h = first_digit k (n / 10) (omega (arith, big)) (omega (arith, lt)) in
          (h.0, suc h.1, h.2, h.3, omega (arith, h.4), untenth h.1 h.0 1 n h.5)
    ]
  where
    untenth : (j a p m : ℕ) → Within j a p (m / 10) → Within (suc j) a p m
    untenth zero a p m h = (omega (arith, h.0, h.1), omega (arith, h.0, h.1))
    untenth (suc j) a p m h = untenth j (10 * a) (10 * p) m h

itself : (m : ℕ) → Within 0 m 1 m
unfolding Within
itself m = (omega arith, omega arith)

pub record Digit (b : ℕ) : Type 0 where
  pub d : ℕ
  pub is : b ≡ 48 + d
  pub lt : d < 10

pub digit_of : (b : ℕ) → is_digit b ≡ true → Digit b
digit_of b e = let p = and_parts (leb 48 b) (leb b 57) e in
    record { d = b - 48; is = omega (arith, leb-true 48 b p.0); lt = omega (arith, leb-true 48 b p.0, leb-true b 57 p.1) }

may_le : (low high v : ℕ) → low ≤ high → may_begin low high v ≡ true → v ≤ high
may_le low high v le e = let h = reaches-gives 20 low high v 1 le (omega arith) e in omega (arith, within_below h.0 v 1 h.1 h.5, h.4)

begin_le : (low high d : ℕ) → low ≤ high → may_be_first low high d ≡ true → d ≤ high
begin_le low high zero le e = omega arith
begin_le low high (suc d) le e = may_le low high (suc d) le (rw (ne_eqb (suc d) 0 (λ q. omega (arith, q))) at e)

apart_by : (stop : ℕ) → is_digit stop ≡ false → (d : ℕ) → d < 10 → 48 + d ≡ stop → ⊥
apart_by stop plain d lt e =
    let yes : is_digit (48 + d) ≡ true = and_from (leb 48 (48 + d)) (leb (48 + d) 57) (le-leb 48 (48 + d) (omega arith)) (le-leb (48 + d) 57 (omega (arith, lt))) in
    let f : is_digit stop ≡ true = subst (λ (n : ℕ). is_digit n ≡ true) e yes in
    cc

-- the byte behind the number is no digit
module _ (stop : ℕ) (apart : (d : ℕ) → d < 10 → 48 + d ≡ stop → ⊥) where
  -- each number in the limits is read

  step_digit : (low high u d : ℕ) → 0 < u → d < 10 → may_begin low high (u * 10 + d) ≡ true → number_step stop low high (Some u) (48 + d) ≡ Goes (Some (u * 10 + d))
  step_digit low high u d pos lt ok =
      let e : (48 + d) - 48 ≡ d = omega arith in
      rw (ne_eqb (48 + d) stop (apart d lt), le-leb 48 (48 + d) (omega arith), le-leb (48 + d) 57 (omega (arith, lt)), lt-ltb 0 u pos, e, ok) refl

  step_first : (low high d : ℕ) → d < 10 → may_be_first low high d ≡ true → number_step stop low high None (48 + d) ≡ Goes (Some d)
  step_first low high d lt ok =
      let e : (48 + d) - 48 ≡ d = omega arith in
      rw (le-leb 48 (48 + d) (omega arith), le-leb (48 + d) 57 (omega (arith, lt)), e, ok) refl

  step_end : (low high v : ℕ) → low ≤ v → number_step stop low high (Some v) stop ≡ Ends v
  step_end low high v le = rw (eq-eqb stop stop refl, le-leb low v le) refl

  goes_on : (low high u : ℕ) (d : ℕ) (x : List ℕ) (n : ℕ) → 0 < u → d < 10 → may_begin low high (u * 10 + d) ≡ true → Leads (number_step stop low high) (Some (u * 10 + d)) x n → Leads (number_step stop low high) (Some u) ((48 + d) ∷ x) n
  goes_on low high u d x n pos lt ok h = rw (step_digit low high u d pos lt ok) h

  abbrev Walks : ℕ → ℕ → ℕ → ℕ → ℕ → Type 0
  Walks low high n v m = (w : List ℕ) × ((x : List ℕ) → Leads (number_step stop low high) (Some m) x n → Leads (number_step stop low high) (Some v) (w ++ x) n) × (decimal m ≡ decimal v ++ w)

  -- from a number to one that it begins, and on to n in the limits
  walk : (low high n : ℕ) → low ≤ n → n ≤ high → high < 2 ^ 64 → (j v m i : ℕ) → 0 < v → i + j < 20 → Within j v 1 m → Within i m 1 n → Walks low high n v m
  unfolding Within
  walk low high n lo hi wide zero v m i pos fuel h k =
      let e : v ≡ m = omega (arith, h.0, h.1) in
      subst (λ (y : ℕ). Walks low high n v y) e ([], λ x l. l, sym (append-nil (decimal v)))
  walk low high n lo hi wide (suc j) v m i pos fuel h k =
      let u = m / 10 in
      let d = m % 10 in
      let lt : d < 10 = omega arith in
      let is : u * 10 + d ≡ m = omega arith in
      let tenth = within_tenth j v 1 m h in
      let upos : 0 < u = omega (arith, within_below j v 1 u tenth, pos) in
      let top : m ≤ n = within_below i m 1 n k in
      let wider : Within (suc i) u 1 n = within_wider i m 1 (10 * u) 10 n (omega (arith, is)) (omega (arith, is, lt)) k in
      let ih = walk low high n lo hi wide j v u (suc i) pos (omega (arith, fuel)) tenth wider in
      let ok : may_begin low high (u * 10 + d) ≡ true = subst (λ (y : ℕ). may_begin low high y ≡ true) (sym is) (reaches-from 20 low high m 1 i n (omega (arith, fuel)) lo hi k) in
      subst (λ (y : ℕ). Walks low high n v y) is (
        ih.0 ++ (48 + d) ∷ [],
        λ x l. subst (λ (y : List ℕ). Leads (number_step stop low high) (Some v) y n) (sym (append_assoc ih.0 ((48 + d) ∷ []) x)) (ih.1 ((48 + d) ∷ x) (goes_on low high u d x n upos lt ok l)),
        decimal_push u d upos lt (omega (arith, is, top, hi, wide)) ∙ ap (λ (y : List ℕ). y ++ (48 + d) ∷ []) ih.2 ∙ append_assoc (decimal v) ih.0 ((48 + d) ∷ []),
      )

  ends_here : (low high n : ℕ) → low ≤ n → Leads (number_step stop low high) (Some n) (stop ∷ []) n
  ends_here low high n le = rw (step_end low high n le) (refl, refl)

  complete : (low high n : ℕ) → high < 2 ^ 64 → IsFrom low high n → Leads (number_step stop low high) None (number_text stop n) n
  unfolding Within
  complete low high zero wide fits =
      let e : decimal 0 ≡ 48 ∷ [] = decimal_digit 0 (omega arith) in
      let l : low ≡ 0 = omega (arith, fits.0) in
      subst (λ (y : List ℕ). Leads (number_step stop low high) None (y ++ stop ∷ []) 0) (sym e)
      (rw (step_first low high 0 (omega arith) (eq-eqb low 0 l)) (ends_here low high 0 fits.0))
  complete low high (suc n) wide fits =
      let f = first_digit 19 (suc n) (omega arith) (omega (arith, fits.1, wide)) in
      let k : Within 0 (suc n) 1 (suc n) = itself (suc n) in
      let w = walk low high (suc n) fits.0 fits.1 wide f.1 f.0 (suc n) 0 f.2 (omega (arith, f.4)) f.5 k in
      let ok : may_be_first low high f.0 ≡ true = rw (ne_eqb f.0 0 (λ q. omega (arith, q, f.2))) (reaches-from 20 low high f.0 1 f.1 (suc n) (omega (arith, f.4)) fits.0 fits.1 f.5) in
      let text : number_text stop (suc n) ≡ (48 + f.0) ∷ (w.0 ++ stop ∷ []) = ap (λ (y : List ℕ). y ++ stop ∷ []) (w.2 ∙ ap (λ (y : List ℕ). y ++ w.0) (decimal_digit f.0 f.3)) in
      subst (λ (y : List ℕ). Leads (number_step stop low high) None y (suc n)) (sym text)
      (rw (step_first low high f.0 f.3 ok) (w.1 (stop ∷ []) (ends_here low high (suc n) fits.0)))

  -- what is read is a number in the limits

  IsLive_at : ℕ → ℕ → Option ℕ → Type 0
  IsLive_at low high None = Unit {0}
  IsLive_at low high (Some v) = ((v ≡ 0) × (low ≡ 0)) ⊎ ((0 < v) × (may_begin low high v ≡ true))

  -- the digits behind v
  Continues : ℕ → ℕ → ℕ → List ℕ → ℕ → Type 0
  Continues low high v w n = IsFrom low high n × (number_text stop n ≡ decimal v ++ w)

  -- the three things that a byte can do behind a number
  abbrev Does : ℕ → ℕ → ℕ → ℕ → Step (Option ℕ) ℕ → Type 0
  Does low high v b (Ends n) = (b ≡ stop) × (low ≤ v) × (v ≡ n)
  Does low high v b (Goes t) = (d : ℕ) × (b ≡ 48 + d) × (d < 10) × (0 < v) × (may_begin low high (v * 10 + d) ≡ true) × (t ≡ Some (v * 10 + d))
  Does low high v b Fails = Unit {0}

  does : (low high v b : ℕ) → Does low high v b (number_step stop low high (Some v) b)
  does low high v b =
      elim (cases_eq b stop) [
        | inl e ↦ rw (eq-eqb b stop e) (cond_both (leb low v) (Ends v) Fails (Does low high v b) (λ t. (e, leb-true low v t, refl)) (λ f. tt))
        | inr other ↦ rw (ne_eqb b stop other) (cond_both (is_digit b && (ltb 0 v && may_begin low high (v * 10 + (b - 48)))) (Goes (Some (v * 10 + (b - 48)))) Fails (Does low high v b)
            (λ t. let p = and_parts (is_digit b) (ltb 0 v && may_begin low high (v * 10 + (b - 48))) t in
            let q = and_parts (ltb 0 v) (may_begin low high (v * 10 + (b - 48))) p.1 in
            let d = digit_of b p.0 in
            (b - 48, omega (arith, d.is), omega (arith, d.is, d.lt), ltb-true 0 v q.0, q.1, refl)) (λ f. tt))
      ]

  sound_some : (low high v : ℕ) (w : List ℕ) (n : ℕ) → low ≤ high → high < 2 ^ 64 → v ≤ high → Leads (number_step stop low high) (Some v) w n → Continues low high v w n
  unfolding Continues
  sound_some low high v [] n le wide fits l = absurd l
  sound_some low high v (b ∷ w) n le wide fits l = go (λ u f m. sound_some low high u w n le wide f m) (number_step stop low high (Some v) b) (does low high v b) l
    where
      go : ((u : ℕ) → u ≤ high → Leads (number_step stop low high) (Some u) w n → Continues low high u w n)
          → (x : Step (Option ℕ) ℕ) → Does low high v b x → By x (λ u. (w ≡ []) × (u ≡ n)) (λ t. Leads (number_step stop low high) t w n) → Continues low high v (b ∷ w) n
      go ih (Ends u) d l =
          let e : v ≡ n = d.2 ∙ l.1 in
          subst (λ (m : ℕ). Continues low high v (b ∷ w) m) e ((d.1, fits), rw (d.0, l.0) refl)
      go ih (Goes t) d l =
          let ok = may_le low high (v * 10 + d.0) le d.4 in
          let h = ih (v * 10 + d.0) ok (subst (λ (s : Option ℕ). Leads (number_step stop low high) s w n) d.5 l) in
          (h.0, h.1 ∙ ap (λ (y : List ℕ). y ++ w) (decimal_push v d.0 d.3 d.2 (omega (arith, ok, wide))) ∙ append_assoc (decimal v) ((48 + d.0) ∷ []) w ∙ ap (λ (c : ℕ). decimal v ++ c ∷ w) (sym d.1))
      go ih Fails d l = absurd l

  abbrev Begins_with : ℕ → ℕ → ℕ → Step (Option ℕ) ℕ → Type 0
  Begins_with low high b (Ends n) = ⊥
  Begins_with low high b (Goes t) = (d : ℕ) × (b ≡ 48 + d) × (d < 10) × (may_be_first low high d ≡ true) × (t ≡ Some d)
  Begins_with low high b Fails = Unit {0}

  begins_with : (low high b : ℕ) → Begins_with low high b (number_step stop low high None b)
  begins_with low high b =
      cond_both (is_digit b && may_be_first low high (b - 48)) (Goes (Some (b - 48))) Fails (Begins_with low high b)
      (λ t. let p = and_parts (is_digit b) (may_be_first low high (b - 48)) t in
      let d = digit_of b p.0 in
      (b - 48, omega (arith, d.is), omega (arith, d.is, d.lt), p.1, refl)) (λ f. tt)

  sound : (low high : ℕ) (w : List ℕ) (n : ℕ) → low ≤ high → high < 2 ^ 64 → Leads (number_step stop low high) None w n → IsFrom low high n × (number_text stop n ≡ w)
  unfolding Continues
  sound low high [] n le wide l = absurd l
  sound low high (b ∷ w) n le wide l = go (number_step stop low high None b) (begins_with low high b) l
    where
      go : (x : Step (Option ℕ) ℕ) → Begins_with low high b x → By x (λ u. (w ≡ []) × (u ≡ n)) (λ t. Leads (number_step stop low high) t w n) → IsFrom low high n × (number_text stop n ≡ b ∷ w)
      go (Ends u) d l = absurd d
      go (Goes t) d l =
          let h = sound_some low high d.0 w n le wide (begin_le low high d.0 le d.3) (subst (λ (s : Option ℕ). Leads (number_step stop low high) s w n) d.4 l) in
          (h.0, h.1 ∙ ap (λ (y : List ℕ). y ++ w) (decimal_digit d.0 d.2) ∙ ap (λ (c : ℕ). c ∷ w) (sym d.1))
      go Fails d l = absurd l

  -- each state has a text

  number_live : (low high : ℕ) → low ≤ high → high < 2 ^ 64 → IsLive (number_step stop low high) (IsLive_at low high)
  unfolding IsLive_at
  number_live low high le wide = record { some = some; kept = kept }
    where
      some : (s : Option ℕ) → IsLive_at low high s → (w : List ℕ) × (n : ℕ) × Leads (number_step stop low high) s w n
      some None live = (number_text stop low, low, complete low high low wide (omega arith, le))
      some (Some v) (inl z) = (stop ∷ [], v, ends_here low high v (omega (arith, z.1)))
      some (Some v) (inr p) =
          let h = reaches-gives 20 low high v 1 le (omega arith) p.1 in
          let w = walk low high h.1 h.3 h.4 wide h.0 v h.1 0 p.0 (omega (arith, h.2)) h.5 (itself h.1) in
          (w.0 ++ stop ∷ [], h.1, w.1 (stop ∷ []) (ends_here low high h.1 h.3))

      live_first : (d : ℕ) → may_be_first low high d ≡ true → IsLive_at low high (Some d)
      live_first zero e = inl (refl, eqb-true low 0 e)
      live_first (suc d) e = inr (omega arith, rw (ne_eqb (suc d) 0 (λ q. omega (arith, q))) at e)

      from_first : (b : ℕ) (t : Option ℕ) (x : Step (Option ℕ) ℕ) → Begins_with low high b x → x ≡ Goes t → IsLive_at low high t
      from_first b t (Ends n) d e = absurd d
      from_first b t (Goes u) d e = let same : u ≡ t = cc in subst (IsLive_at low high) (sym d.4 ∙ same) (live_first d.0 d.3)
      from_first b t Fails d e = absurd cc

      from_some : (v b : ℕ) (t : Option ℕ) (x : Step (Option ℕ) ℕ) → Does low high v b x → x ≡ Goes t → IsLive_at low high t
      from_some v b t (Ends n) d e = absurd cc
      from_some v b t (Goes u) d e = let same : u ≡ t = cc in subst (IsLive_at low high) (sym d.5 ∙ same) (inr (omega (arith, d.3), d.4))
      from_some v b t Fails d e = absurd cc

      kept : (s t : Option ℕ) (b : ℕ) → IsLive_at low high s → number_step stop low high s b ≡ Goes t → IsLive_at low high t
      kept None t b live e = from_first b t (number_step stop low high None b) (begins_with low high b) e
      kept (Some v) t b live e = from_some v b t (number_step stop low high (Some v) b) (does low high v b) e

  -- the law of `number_at`
  reading_apart : (low high : ℕ) → low ≤ high → high < 2 ^ 64 → Reads cases_eq (number_text stop) (IsFrom low high) (number_at stop low high)
  unfolding IsLive_at number_at
  reading_apart low high le wide = machine-reading cases_eq (number_step stop low high) (IsLive_at low high) None (number_text stop) (IsFrom low high)
      (number_live low high le wide) tt (λ w n l. sound low high w n le wide l) (λ n fits. complete low high n wide fits)

-- the law of `number_at`
pub number-reading : (stop low high : ℕ) → is_digit stop ≡ false → low ≤ high → high < 2 ^ 64 → Reads cases_eq (number_text stop) (IsFrom low high) (number_at stop low high)
number-reading stop low high plain le wide = reading_apart stop (apart_by stop plain) low high le wide

pub number_after-reading : (literal : List ℕ) (stop low high : ℕ) → is_digit stop ≡ false → low ≤ high → high < 2 ^ 64 → Reads cases_eq (λ n. literal ++ number_text stop n) (IsFrom low high) (number_after literal stop low high)
unfolding number_after
number_after-reading literal stop low high plain le wide k =
    after-reading k literal (number_text stop) (IsFrom low high) (number_at stop low high) (low, (omega arith, le)) (number-reading stop low high plain le wide k)

-- what the code uses

pub reaches_zero : (n i low high a p : ℕ) → n ≤ i → reaches (n - i) low high a p ≡ false
unfolding reaches
reaches_zero n i low high a p le = let e : n - i ≡ 0 = omega arith in rw e refl

pub reaches_over : (n low high a p : ℕ) → high < a → reaches n low high a p ≡ false
unfolding reaches
reaches_over zero low high a p lt = refl
reaches_over (suc n) low high a p lt = rw (lt-leb a high lt) refl

pub reaches_here : (n low high a p : ℕ) → 0 < n → a ≤ high → low < a + p → reaches n low high a p ≡ true
unfolding reaches
reaches_here zero low high a p pos le lt = absurd (omega (arith, pos))
reaches_here (suc n) low high a p pos le lt = rw (le-leb a high le, lt-ltb low (a + p) lt) refl

pub reaches_on : (n low high a p : ℕ) → 0 < n → a ≤ high → a + p ≤ low → reaches n low high a p ≡ reaches (n - 1) low high (a * 10) (p * 10)
unfolding reaches
reaches_on zero low high a p pos le lt = absurd (omega (arith, pos))
reaches_on (suc n) low high a p pos le lt =
    let e : suc n - 1 ≡ n = omega arith in
    let f : 10 * a ≡ a * 10 = omega arith in
    let g : 10 * p ≡ p * 10 = omega arith in
    rw (le-leb a high le, le-ltb low (a + p) lt, e, f, g) refl

pub may_is_below : (low high v : ℕ) → low ≤ high → may_begin low high v ≡ true → v ≤ high
may_is_below low high v le e = may_le low high v le e
