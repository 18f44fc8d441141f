-- That what is listed of a file are the largest runs of its marked granules.
use Rattle.std.proofs.Common.{◌≡◌, ℕ, zero, suc, ◌+◌, ◌*◌, ◌/◌, ◌≤◌, ◌<◌, min, max, Bool, true, false, ◌&&◌, ◌||◌, cond, eqb, ltb, leb, List, [], ◌∷◌, length, map, refl, sym, ap, ◌∙◌, inl, inr, arith}
use Rattle.std.specs.List.{range_with_len, filter}
use Rattle.std.proofs.lemmas.List.{get_or_past}
use Rattle.std.proofs.lemmas.Bool.Decides.{nat_tests}
use Rattle.std.proofs.lemmas.Bool.{leb-true, ltb-true, eqb-true, eq-eqb, cases_Bool, cases_lt, and_parts, and_from, false_from_ne_true, false≢true}
use Rattle.sx_extent.specs.Ranges.{SparseFile, Interval, is_marked, touches, joined, joined_before, listed, part_of_granule, lies_in, AreApart, AreRuns}
use Rattle.sx_extent.proofs.GranuleLemmas.{outside, inside}
use Rattle.sx_extent.proofs.GranuleSteps.{touches_at, touches_true, one_more}

-- place k lies in the interval
abbrev pub is_in : Interval → ℕ → Bool
is_in s k = leb s.from k && ltb k s.end

-- ---- joining intervals that are in order

-- each interval has bytes, and ends where the next one begins or before
abbrev pub AreInOrder : List Interval → Type 0
AreInOrder [] = Unit {0}
AreInOrder (s ∷ []) = s.from < s.end
AreInOrder (s ∷ (t ∷ ts)) = (s.from < s.end) × (s.end ≤ t.from) × AreInOrder (t ∷ ts)

-- none begins before a place
abbrev pub BeginFrom : ℕ → List Interval → Type 0
BeginFrom x [] = Unit {0}
BeginFrom x (u ∷ us) = x ≤ u.from

begin_from_less : (x y : ℕ) (ss : List Interval) → x ≤ y → BeginFrom y ss → BeginFrom x ss
begin_from_less x y [] l h = tt
begin_from_less x y (s ∷ ss) l h = omega arith

in_order_before : (s : Interval) (ss : List Interval) → s.from < s.end → BeginFrom s.end ss → AreInOrder ss → AreInOrder (s ∷ ss)
in_order_before s [] p q r = p
in_order_before s (t ∷ ts) p q r = (p, q, r)

before_apart : (s u : Interval) → eqb s.end u.from ≡ false → s.end ≤ u.from → s.end < u.from
before_apart s u e l = grind (arith, nat_tests)

-- one before others that are apart
apart_pick : (s u : Interval) (us : List Interval) (b : Bool) → eqb s.end u.from ≡ b → s.from < s.end → s.end ≤ u.from → AreApart (u ∷ us) → AreApart (cond b (record { from = s.from; end = u.end } ∷ us) (s ∷ u ∷ us)) × BeginFrom s.from (cond b (record { from = s.from; end = u.end } ∷ us) (s ∷ u ∷ us))
apart_pick s u [] true e p q r = let i : s.end ≡ u.from = eqb-true s.end u.from e in (omega arith, omega arith)
apart_pick s u (v ∷ vs) true e p q r = let i : s.end ≡ u.from = eqb-true s.end u.from e in let h : u.from < u.end = r.0 in ((omega arith, r.1, r.2), omega arith)
apart_pick s u us false e p q r = ((p, before_apart s u e q, r), omega arith)

apart_before : (s : Interval) (ss : List Interval) → s.from < s.end → BeginFrom s.end ss → AreApart ss → AreApart (joined_before s ss) × BeginFrom s.from (joined_before s ss)
apart_before s [] p q r = (p, omega arith)
apart_before s (u ∷ us) p q r = apart_pick s u us (eqb s.end u.from) refl p q r

-- what is joined is apart, and begins where it began
runs_apart : (x : ℕ) (ss : List Interval) → AreInOrder ss → BeginFrom x ss → AreApart (joined ss) × BeginFrom x (joined ss)
runs_apart x [] p b = (tt, tt)
runs_apart x (s ∷ []) p b = (p, b)
runs_apart x (s ∷ (t ∷ ts)) p b =
    let h = runs_apart s.end (t ∷ ts) p.2 p.1 in
    let j = apart_before s (joined (t ∷ ts)) p.0 h.1 h.0 in
    (j.0, begin_from_less x s.from (joined_before s (joined (t ∷ ts))) b j.1)

-- the places of two intervals that meet
meeting : (s u : Interval) (k : ℕ) → s.end ≡ u.from → s.from < s.end → u.from < u.end → (leb s.from k && ltb k u.end) ≡ (is_in s k || is_in u k)
meeting s u k e p q = grind (arith, nat_tests)

or_assoc : (a b c : Bool) → ((a || b) || c) ≡ (a || (b || c))
or_assoc true b c = refl
or_assoc false b c = refl

lies_pick_two : (s u : Interval) (us : List Interval) (k : ℕ) (b : Bool) → eqb s.end u.from ≡ b → s.from < s.end → u.from < u.end → lies_in (cond b (record { from = s.from; end = u.end } ∷ us) (s ∷ u ∷ us)) k ≡ (is_in s k || (is_in u k || lies_in us k))
lies_pick_two s u us k true e p q = ap (λ m. m || lies_in us k) (meeting s u k (eqb-true s.end u.from e) p q) ∙ or_assoc (is_in s k) (is_in u k) (lies_in us k)
lies_pick_two s u us k false e p q = refl

head_has : (u : Interval) (us : List Interval) → AreApart (u ∷ us) → u.from < u.end
head_has u [] p = p
head_has u (v ∷ vs) p = p.0

lies_before : (s : Interval) (ss : List Interval) (k : ℕ) → s.from < s.end → AreApart ss → lies_in (joined_before s ss) k ≡ (is_in s k || lies_in ss k)
lies_before s [] k p r = refl
lies_before s (u ∷ us) k p r = lies_pick_two s u us k (eqb s.end u.from) refl p (head_has u us r)

-- joining changes no place
lies_joined : (ss : List Interval) (k : ℕ) → AreInOrder ss → lies_in (joined ss) k ≡ lies_in ss k
lies_joined [] k p = refl
lies_joined (s ∷ []) k p = refl
lies_joined (s ∷ (t ∷ ts)) k p = lies_before s (joined (t ∷ ts)) k p.0 (runs_apart s.end (t ∷ ts) p.2 p.1).0 ∙ ap (λ b. is_in s k || b) (lies_joined (t ∷ ts) k p.2)

-- ---- the parts of granules

-- the parts of granules that pass a test and are touched
abbrev pub parts : ℕ → ℕ → (ℕ → Bool) → ℕ → ℕ → List Interval
parts a b p c n = map (part_of_granule a b) (filter (λ g. p g && touches a b g) (range_with_len c n))

order_pick : (a b c : ℕ) (t : Bool) (gs : List ℕ) → (t ≡ true → touches a b c ≡ true) → AreInOrder (map (part_of_granule a b) gs) → BeginFrom (512 * (c + 1)) (map (part_of_granule a b) gs)
    → AreInOrder (map (part_of_granule a b) (cond t (c ∷ gs) gs)) × BeginFrom (512 * c) (map (part_of_granule a b) (cond t (c ∷ gs) gs))
order_pick a b c true gs h r s =
    let l = touches_true a b c (h refl) in
    (in_order_before (part_of_granule a b c) (map (part_of_granule a b) gs) l (begin_from_less (min b (512 * c + 512)) (512 * (c + 1)) (map (part_of_granule a b) gs) (omega arith) s) r, omega arith)
order_pick a b c false gs h r s = (r, begin_from_less (512 * c) (512 * (c + 1)) (map (part_of_granule a b) gs) (omega arith) s)

parts_in_order : (a b : ℕ) (p : ℕ → Bool) (c n : ℕ) → AreInOrder (parts a b p c n) × BeginFrom (512 * c) (parts a b p c n)
parts_in_order a b p c zero = (tt, tt)
parts_in_order a b p c (suc n) =
    let h = parts_in_order a b p (c + 1) n in
    order_pick a b c (p c && touches a b c) (filter (λ g. p g && touches a b g) (range_with_len (c + 1) n)) (λ t. (and_parts (p c) (touches a b c) t).1) h.0 h.1

lies_pick : (a b k c : ℕ) (t : Bool) (gs : List ℕ) → lies_in (map (part_of_granule a b) (cond t (c ∷ gs) gs)) k ≡ ((t && is_in (part_of_granule a b c) k) || lies_in (map (part_of_granule a b) gs) k)
lies_pick a b k c true gs = refl
lies_pick a b k c false gs = refl

-- a place in a part lies in the interval and in the granule
in_part : (a b k c : ℕ) → (touches a b c && is_in (part_of_granule a b c) k) ≡ ((leb a k && ltb k b) && eqb c (k / 512))
in_part a b k c = elim (cases_Bool ((leb a k && ltb k b) && eqb c (k / 512))) [
  | inl t ↦
      let p = and_parts (leb a k && ltb k b) (eqb c (k / 512)) t in
      let q = and_parts (leb a k) (ltb k b) p.0 in
      let l : a ≤ k = leb-true a k q.0 in
      let m : k < b = ltb-true k b q.1 in
      let e : c ≡ k / 512 = eqb-true c (k / 512) p.1 in
      and_from (touches a b c) (is_in (part_of_granule a b c) k) (ap (touches a b) e ∙ touches_at a b k l m) (inside (max a (512 * c)) (min b (512 * c + 512)) k (omega arith) (omega arith)) ∙ sym t
  | inr f ↦
      false_from_ne_true (touches a b c && is_in (part_of_granule a b c) k) (λ t.
      let p = and_parts (touches a b c) (is_in (part_of_granule a b c) k) t in
      let q = and_parts (leb (max a (512 * c)) k) (ltb k (min b (512 * c + 512))) p.1 in
      let l : max a (512 * c) ≤ k = leb-true (max a (512 * c)) k q.0 in
      let m : k < min b (512 * c + 512) = ltb-true k (min b (512 * c + 512)) q.1 in
      false≢true (sym f ∙ and_from (leb a k && ltb k b) (eqb c (k / 512)) (inside a b k (omega arith) (omega arith)) (eq-eqb c (k / 512) (omega arith)))) ∙ sym f
]

and_assoc : (a b c : Bool) → ((a && b) && c) ≡ (a && (b && c))
and_assoc true b c = refl
and_assoc false b c = refl

and_false : (b : Bool) → (b && false) ≡ false
and_false true = refl
and_false false = refl

-- one granule and the later ones
combine : (b e r p q : Bool) → (e ≡ true → p ≡ q) → ((p && (b && e)) || (b && (r && q))) ≡ (b && ((e || r) && q))
combine false e r true q f = refl
combine false e r false q f = refl
combine true true r p true f = rw (f refl) refl
combine true true true p false f = rw (f refl) refl
combine true true false p false f = rw (f refl) refl
combine true false r true q f = refl
combine true false r false q f = refl

lies_in_parts : (a b k : ℕ) (p : ℕ → Bool) (c n : ℕ) → lies_in (parts a b p c n) k ≡ ((leb a k && ltb k b) && ((leb c (k / 512) && ltb (k / 512) (c + n)) && p (k / 512)))
lies_in_parts a b k p c zero =
    let x : ℕ = k / 512 in
    let f : (leb c x && ltb x (c + 0)) ≡ false = outside c (c + 0) x (λ i j. omega arith) in
    sym (ap (λ r. (leb a k && ltb k b) && (r && p x)) f ∙ and_false (leb a k && ltb k b))
lies_in_parts a b k p c (suc n) =
    let x : ℕ = k / 512 in
    let t : Bool = p c && touches a b c in
    let inner : Bool = leb a k && ltb k b in
    let r : Bool = leb (c + 1) x && ltb x (c + 1 + n) in
    lies_pick a b k c t (filter (λ g. p g && touches a b g) (range_with_len (c + 1) n))
    ∙ ap (λ m. (t && is_in (part_of_granule a b c) k) || m) (lies_in_parts a b k p (c + 1) n)
    ∙ ap (λ m. m || (inner && (r && p x))) (and_assoc (p c) (touches a b c) (is_in (part_of_granule a b c) k) ∙ ap (λ m. p c && m) (in_part a b k c))
    ∙ combine inner (eqb c x) r (p c) (p x) (λ e. ap p (eqb-true c x e))
    ∙ ap (λ m. inner && (m && p x)) (one_more c n x)

-- ---- a listing

-- a mark is a granule's of the file
marked_below : (f : SparseFile) (g : ℕ) → is_marked f g ≡ true → g < length f.marks
unfolding is_marked
marked_below f g t = elim (cases_lt g (length f.marks)) [ inl l ↦ l | inr l ↦ absurd (false≢true (sym (get_or_past f.marks g false l) ∙ t)) ]

within_marks : (f : SparseFile) (g : ℕ) → ((leb 0 g && ltb g (0 + length f.marks)) && is_marked f g) ≡ is_marked f g
within_marks f g = elim (cases_Bool (is_marked f g)) [
  | inl t ↦
      let l : g < length f.marks = marked_below f g t in
      and_from (leb 0 g && ltb g (0 + length f.marks)) (is_marked f g) (inside 0 (0 + length f.marks) g (omega arith) (omega arith)) t ∙ sym t
  | inr e ↦ ap (λ m. (leb 0 g && ltb g (0 + length f.marks)) && m) e ∙ and_false (leb 0 g && ltb g (0 + length f.marks)) ∙ sym e
]

-- what is listed are the largest runs of marked granules, cut at the length and at the interval
pub listed_runs : (f : SparseFile) (from end : ℕ) → AreRuns f from end (listed f from end)
unfolding listed
listed_runs f from end =
    let last : ℕ = min end (length f.bytes) in
    let n : ℕ = length f.marks in
    let order = parts_in_order from last (is_marked f) 0 n in
    record {
      bytes = λ k.
          lies_joined (parts from last (is_marked f) 0 n) k order.0
          ∙ lies_in_parts from last k (is_marked f) 0 n
          ∙ ap (λ m. (leb from k && ltb k last) && m) (within_marks f (k / 512));
      apart = (runs_apart 0 (parts from last (is_marked f) 0 n) order.0 (begin_from_less 0 (512 * 0) (parts from last (is_marked f) 0 n) (omega arith) order.1)).0;
    }
