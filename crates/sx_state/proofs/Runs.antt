-- What binary search finds in a list that is in order: a place, a run of items, the one item of a key.
use Rattle.std.proofs.Common.{◌≡◌, ◌∙◌, sym, ap, refl, ℕ, suc, zero, ◌+◌, ◌-◌, ◌<◌, ◌≤◌, nat_lt, ◌==◌, Bool, true, false, not, cond, ◌||◌, if◌then◌else◌, List, [], ◌∷◌, Option, Some, None, take, drop, position, filter, find, length, get_or, All, AllPairs, subst, arith}
use Rattle.std.specs.List.{list_any, prefix_len, position_or_len}
use Rattle.std.specs.List.Sorted.{IsPartitionedBy, IsPartitionPoint}
use Rattle.std.proofs.lemmas.Bool.Decides.{nat_tests}
use Rattle.std.proofs.lemmas.List.{drop-take}
use Rattle.std.proofs.lemmas.List.Elements.{All-head, All-tail, All-weaker}
use Rattle.sx_guard.proofs.Pairs.{AllPairs-head, AllPairs-tail}
use Rattle.sx_guard.proofs.Places.{first_place}

differ : true ≡ false → ⊥
differ e = cc

one_more : (n : ℕ) → 1 + n ≡ suc n
one_more n = omega arith

-- a test that passes in front of what it passes parts a list in order
pub parted : {X : Type 0} (R : X → X → Type 0) (p : X → Bool) → ((a b : X) → R a b → p b ≡ true → p a ≡ true) → (xs : List X) → AllPairs R xs → IsPartitionedBy p xs
parted {X = X} R p back xs pairs = λ i j d le lt up. by_place i j d (nat_lt i j) refl le lt up
  where
    by_place : (i j : ℕ) (d : X) (b : Bool) → nat_lt i j ≡ b → i ≤ j → j < length xs → p (get_or xs j d) ≡ true → p (get_or xs i d) ≡ true
    by_place i j d true e le lt up = back (get_or xs i d) (get_or xs j d) (pairs i j d (grind (arith, nat_tests)) lt) up
    by_place i j d false e le lt up =
        let same : j ≡ i = grind (arith, nat_tests) in
        subst (λ k. p (get_or xs k d) ≡ true) same up

-- the place that parts a list is how many pass from the front on
pub place_is : {X : Type 0} (p : X → Bool) (xs : List X) (at : ℕ) → at ≤ length xs → IsPartitionPoint (λ y. p y ≡ true) (λ y. p y ≡ false) xs at → at ≡ prefix_len p xs
place_is p [] at le point = omega (arith, le)
place_is p (x ∷ xs) zero le point = rw (point.1 0 x (omega arith) (omega arith)) refl
place_is p (x ∷ xs) (suc n) le point =
    rw (point.0 0 x (omega arith) (omega arith))
    (sym (one_more n) ∙ ap (λ k. 1 + k) (place_is p xs n (omega (arith, le)) ((λ k d l m. point.0 (suc k) d (omega arith) (omega (arith, m))), (λ k d l m. point.1 (suc k) d (omega (arith, l)) (omega (arith, m))))))

-- A run of a list in order: in front of it stands what is below it, and up to its end what is not above it.
module _ {X : Type 0} (R : X → X → Type 0) (below upto keep : X → Bool)
    (front : (x : X) → below x ≡ true → (upto x ≡ true) × (keep x ≡ false))
    (within : (x : X) → below x ≡ false → upto x ≡ true → keep x ≡ true)
    (past : (x : X) → upto x ≡ false → (below x ≡ false) × (keep x ≡ false))
    (low : (a b : X) → R a b → below a ≡ false → below b ≡ false)
    (high : (a b : X) → R a b → upto a ≡ false → upto b ≡ false)
  where
    none_below : (xs : List X) → All (λ x. below x ≡ false) xs → prefix_len below xs ≡ 0
    none_below [] all = refl
    none_below (x ∷ xs) all = rw (All-head (λ y. below y ≡ false) x xs all) refl

    none_kept : (xs : List X) → All (λ x. upto x ≡ false) xs → filter keep xs ≡ []
    none_kept [] all = refl
    none_kept (x ∷ xs) all =
        rw (past x (All-head (λ y. upto y ≡ false) x xs all)).1 (none_kept xs (All-tail (λ y. upto y ≡ false) x xs all))

    run_by : (x : X) (xs : List X) (b u : Bool) → below x ≡ b → upto x ≡ u → AllPairs R (x ∷ xs)
        → filter keep xs ≡ drop (prefix_len below xs) (take (prefix_len upto xs) xs)
        → filter keep (x ∷ xs) ≡ drop (cond b (1 + prefix_len below xs) 0) (take (cond u (1 + prefix_len upto xs) 0) (x ∷ xs))
    run_by x xs true true e f pairs rest =
        rw ((front x e).1, one_more (prefix_len below xs), one_more (prefix_len upto xs)) rest
    run_by x xs true false e f pairs rest = absurd (differ (sym (front x e).0 ∙ f))
    run_by x xs false true e f pairs rest =
        let start : prefix_len below xs ≡ 0 = none_below xs (All-weaker (R x) (λ y. below y ≡ false) (λ y r. low x y r e) xs (AllPairs-head R x xs pairs)) in
        rw (within x e f, one_more (prefix_len upto xs)) (ap (λ (zs : List X). x ∷ zs) (rest ∙ ap (λ (k : ℕ). drop k (take (prefix_len upto xs) xs)) start))
    run_by x xs false false e f pairs rest =
        rw (past x f).1 (none_kept xs (All-weaker (R x) (λ y. upto y ≡ false) (λ y r. high x y r f) xs (AllPairs-head R x xs pairs)))

    ends_by : (x : X) (xs : List X) (b u : Bool) → below x ≡ b → upto x ≡ u → prefix_len below xs ≤ prefix_len upto xs
        → cond b (1 + prefix_len below xs) 0 ≤ cond u (1 + prefix_len upto xs) 0
    ends_by x xs true true e f rest = omega (arith, rest)
    ends_by x xs true false e f rest = absurd (differ (sym (front x e).0 ∙ f))
    ends_by x xs false u e f rest = omega arith

    -- a run ends behind its start
    pub run_ends : (xs : List X) → prefix_len below xs ≤ prefix_len upto xs
    run_ends [] = omega arith
    run_ends (x ∷ xs) = ends_by x xs (below x) (upto x) refl refl (run_ends xs)

    pub run_is : (xs : List X) → AllPairs R xs → filter keep xs ≡ drop (prefix_len below xs) (take (prefix_len upto xs) xs)
    run_is [] pairs = refl
    run_is (x ∷ xs) pairs = run_by x xs (below x) (upto x) refl refl pairs (run_is xs (AllPairs-tail R x xs pairs))

-- a part of a list, cut off behind first and in front then, or the other way round
pub part_is : {X : Type 0} (first past : ℕ) (xs : List X) → first ≤ past → take (past - first) (drop first xs) ≡ drop first (take past xs)
part_is first past xs le =
    let whole : first + (past - first) ≡ past = omega (arith, le) in
    sym (drop-take first (past - first) xs) ∙ ap (λ (k : ℕ). drop first (take k xs)) whole

-- the place of what passes a test among the first items
front_place_by : {X : Type 0} (test : X → Bool) (x : X) (n : ℕ) (xs : List X) (b : Bool) → test x ≡ b
    → (list_any test (take n xs) ≡ true → position_or_len test (take n xs) ≡ position_or_len test xs)
    → list_any test (x ∷ take n xs) ≡ true → position_or_len test (x ∷ take n xs) ≡ position_or_len test (x ∷ xs)
front_place_by test x n xs true e rest is = rw e refl
front_place_by test x n xs false e rest is = rw e (ap (λ k. 1 + k) (rest (rw e at is)))

front_place : {X : Type 0} (test : X → Bool) (n : ℕ) (xs : List X) → list_any test (take n xs) ≡ true → position_or_len test (take n xs) ≡ position_or_len test xs
front_place test zero xs is = absurd (differ (sym is))
front_place test (suc n) [] is = refl
front_place test (suc n) (x ∷ xs) is = front_place_by test x n xs (test x) refl (front_place test n xs) is

from_none : (n : ℕ) → n ≡ 0 + n
from_none n = omega arith

-- The place of an item of a run among all: as far behind the run's start as it is in the run.
module _ {X : Type 0} (below upto test : X → Bool)
    (front : (x : X) → below x ≡ true → (upto x ≡ true) × (test x ≡ false))
  where
    run_place_by : (x : X) (xs : List X) (b u : Bool) → below x ≡ b → upto x ≡ u
        → (list_any test (drop (prefix_len below xs) (take (prefix_len upto xs) xs)) ≡ true
        → position_or_len test xs ≡ prefix_len below xs + position_or_len test (drop (prefix_len below xs) (take (prefix_len upto xs) xs)))
        → list_any test (drop (cond b (1 + prefix_len below xs) 0) (take (cond u (1 + prefix_len upto xs) 0) (x ∷ xs))) ≡ true
        → position_or_len test (x ∷ xs)
        ≡ cond b (1 + prefix_len below xs) 0 + position_or_len test (drop (cond b (1 + prefix_len below xs) 0) (take (cond u (1 + prefix_len upto xs) 0) (x ∷ xs)))
    run_place_by x xs true true e f rest is =
        let more : drop (1 + prefix_len below xs) (take (1 + prefix_len upto xs) (x ∷ xs)) ≡ drop (prefix_len below xs) (take (prefix_len upto xs) xs) =
        rw (one_more (prefix_len below xs), one_more (prefix_len upto xs)) refl in
        rw ((front x e).1, more) (ap (λ k. 1 + k) (rest (rw more at is)) ∙ omega arith)
    run_place_by x xs true false e f rest is = absurd (differ (sym (front x e).0 ∙ f))
    run_place_by x xs false true e f rest is =
        let more : take (1 + prefix_len upto xs) (x ∷ xs) ≡ x ∷ take (prefix_len upto xs) xs = rw (one_more (prefix_len upto xs)) refl in
        rw more (sym (front_place_by test x (prefix_len upto xs) xs (test x) refl (front_place test (prefix_len upto xs) xs) (rw more at is)) ∙ from_none _)
    run_place_by x xs false false e f rest is = absurd (differ (sym is))

    pub run_place : (xs : List X) → list_any test (drop (prefix_len below xs) (take (prefix_len upto xs) xs)) ≡ true
        → position_or_len test xs ≡ prefix_len below xs + position_or_len test (drop (prefix_len below xs) (take (prefix_len upto xs) xs))
    run_place [] is = absurd (differ (sym is))
    run_place (x ∷ xs) is = run_place_by x xs (below x) (upto x) refl refl (run_place xs) is

-- what is found among some items is found among those of them that pass a weaker test
find_by : {X : Type 0} (keep test : X → Bool) (x : X) (xs : List X) (k t : Bool) → keep x ≡ k → test x ≡ t → (test x ≡ true → keep x ≡ true)
    → find test (filter keep xs) ≡ find test xs
    → find test (if k then x ∷ filter keep xs else filter keep xs) ≡ (if t then Some x else find test xs)
find_by keep test x xs true true e f weak rest = rw f refl
find_by keep test x xs true false e f weak rest = rw f rest
find_by keep test x xs false true e f weak rest = absurd (differ (sym (weak f) ∙ e))
find_by keep test x xs false false e f weak rest = rest

pub find_within : {X : Type 0} (keep test : X → Bool) → ((x : X) → test x ≡ true → keep x ≡ true) → (xs : List X) → find test (filter keep xs) ≡ find test xs
find_within keep test weak [] = refl
find_within keep test weak (x ∷ xs) = find_by keep test x xs (keep x) (test x) refl refl (weak x) (find_within keep test weak xs)

any_by : {X : Type 0} (keep test : X → Bool) (x : X) (xs : List X) (k t : Bool) → keep x ≡ k → test x ≡ t → (test x ≡ true → keep x ≡ true)
    → list_any test (filter keep xs) ≡ list_any test xs
    → list_any test (if k then x ∷ filter keep xs else filter keep xs) ≡ (t || list_any test xs)
any_by keep test x xs true true e f weak rest = rw f refl
any_by keep test x xs true false e f weak rest = rw f rest
any_by keep test x xs false true e f weak rest = absurd (differ (sym (weak f) ∙ e))
any_by keep test x xs false false e f weak rest = rest

pub any_within : {X : Type 0} (keep test : X → Bool) → ((x : X) → test x ≡ true → keep x ≡ true) → (xs : List X) → list_any test (filter keep xs) ≡ list_any test xs
any_within keep test weak [] = refl
any_within keep test weak (x ∷ xs) = any_by keep test x xs (keep x) (test x) refl refl (weak x) (any_within keep test weak xs)

-- a place that is within the list
pub position_at : {X : Type 0} (test : X → Bool) (xs : List X) (n : ℕ) → nat_lt (position_or_len test xs) (length xs) ≡ true → position_or_len test xs ≡ n → position test xs ≡ Some n
position_at test xs n lt e = rw lt (ap (λ (k : ℕ). let o : Option ℕ = Some k in o) e)

-- The one item of a key in a list that is strictly in order.
module _ {X : Type 0} (R : X → X → Type 0) (below test : X → Bool)
    (front : (x : X) → below x ≡ true → test x ≡ false)
    (past : (a b : X) → R a b → below a ≡ false → test b ≡ false)
  where
    none_passes : (xs : List X) → All (λ x. test x ≡ false) xs → list_any test xs ≡ false
    none_passes [] all = refl
    none_passes (x ∷ xs) all = rw (All-head (λ y. test y ≡ false) x xs all) (none_passes xs (All-tail (λ y. test y ≡ false) x xs all))

    there_by : (x : X) (xs : List X) (d : X) (b : Bool) → below x ≡ b → AllPairs R (x ∷ xs)
        → (AllPairs R xs → prefix_len below xs < length xs → test (get_or xs (prefix_len below xs) d) ≡ true → position_or_len test xs ≡ prefix_len below xs)
        → cond b (1 + prefix_len below xs) 0 < length (x ∷ xs) → test (get_or (x ∷ xs) (cond b (1 + prefix_len below xs) 0) d) ≡ true
        → position_or_len test (x ∷ xs) ≡ cond b (1 + prefix_len below xs) 0
    there_by x xs d true e pairs rest lt is =
        rw (front x e) (ap (λ k. 1 + k) (rest (AllPairs-tail R x xs pairs) (omega (arith, lt)) (subst (λ k. test (get_or (x ∷ xs) k d) ≡ true) (one_more (prefix_len below xs)) is)))
    there_by x xs d false e pairs rest lt is = rw is refl

    pub place_there : (xs : List X) (d : X) → AllPairs R xs → prefix_len below xs < length xs → test (get_or xs (prefix_len below xs) d) ≡ true → position_or_len test xs ≡ prefix_len below xs
    place_there [] d pairs lt is = absurd (omega (arith, lt))
    place_there (x ∷ xs) d pairs lt is = there_by x xs d (below x) refl pairs (λ p l i. place_there xs d p l i) lt is

    absent_by : (x : X) (xs : List X) (d : X) (b : Bool) → below x ≡ b → AllPairs R (x ∷ xs)
        → (AllPairs R xs → (prefix_len below xs < length xs → test (get_or xs (prefix_len below xs) d) ≡ false) → list_any test xs ≡ false)
        → (cond b (1 + prefix_len below xs) 0 < length (x ∷ xs) → test (get_or (x ∷ xs) (cond b (1 + prefix_len below xs) 0) d) ≡ false)
        → list_any test (x ∷ xs) ≡ false
    absent_by x xs d true e pairs rest is =
        rw (front x e) (rest (AllPairs-tail R x xs pairs) (λ lt. subst (λ k. test (get_or (x ∷ xs) k d) ≡ false) (one_more (prefix_len below xs)) (is (omega (arith, lt)))))
    absent_by x xs d false e pairs rest is =
        rw (is (omega arith)) (none_passes xs (All-weaker (R x) (λ y. test y ≡ false) (λ y r. past x y r e) xs (AllPairs-head R x xs pairs)))

    pub absent_there : (xs : List X) (d : X) → AllPairs R xs → (prefix_len below xs < length xs → test (get_or xs (prefix_len below xs) d) ≡ false) → list_any test xs ≡ false
    absent_there [] d pairs is = refl
    absent_there (x ∷ xs) d pairs is = absent_by x xs d (below x) refl pairs (λ p i. absent_there xs d p i) is

    -- it is there
    pub found_there : (xs : List X) (d : X) → AllPairs R xs → prefix_len below xs < length xs → test (get_or xs (prefix_len below xs) d) ≡ true
        → position test xs ≡ Some (prefix_len below xs)
    found_there xs d pairs lt is =
        let e : position_or_len test xs ≡ prefix_len below xs = place_there xs d pairs lt is in
        position_at test xs (prefix_len below xs) (let l : position_or_len test xs < length xs = subst (λ k. k < length xs) (sym e) lt in grind (arith, nat_tests)) e

    -- it is nowhere
    pub found_nowhere : (xs : List X) (d : X) → AllPairs R xs → (prefix_len below xs < length xs → test (get_or xs (prefix_len below xs) d) ≡ false)
        → position test xs ≡ None
    found_nowhere xs d pairs is = rw (first_place test xs ∙ absent_there xs d pairs is) refl

    -- all of the list stands in front of it
    pub found_past : (xs : List X) → AllPairs R xs → length xs ≤ prefix_len below xs → position test xs ≡ None
    found_past [] pairs le = refl
    found_past (x ∷ xs) pairs le = found_nowhere (x ∷ xs) x pairs (λ lt. absurd (omega (arith, le, lt)))

-- The run of a number, where numbers rise.
module _ {X : Type 0} (key : X → ℕ) (k : ℕ) where
  abbrev pub Rises : X → X → Type 0
  Rises a b = key a ≤ key b

  abbrev pub below : X → Bool
  below x = nat_lt (key x) k

  abbrev pub upto : X → Bool
  upto x = not (nat_lt k (key x))

  abbrev pub keep : X → Bool
  keep x = key x == k

  front_of : (n : ℕ) → nat_lt n k ≡ true → (not (nat_lt k n) ≡ true) × ((n == k) ≡ false)
  front_of n e = (grind (arith, nat_tests), grind (arith, nat_tests))

  within_of : (n : ℕ) → nat_lt n k ≡ false → not (nat_lt k n) ≡ true → (n == k) ≡ true
  within_of n e f = grind (arith, nat_tests)

  past_of : (n : ℕ) → not (nat_lt k n) ≡ false → (nat_lt n k ≡ false) × ((n == k) ≡ false)
  past_of n e = (grind (arith, nat_tests), grind (arith, nat_tests))

  low_of : (m n : ℕ) → m ≤ n → nat_lt m k ≡ false → nat_lt n k ≡ false
  low_of m n l e = grind (arith, nat_tests)

  high_of : (m n : ℕ) → m ≤ n → not (nat_lt k m) ≡ false → not (nat_lt k n) ≡ false
  high_of m n l e = grind (arith, nat_tests)

  back_low : (m n : ℕ) → m ≤ n → nat_lt n k ≡ true → nat_lt m k ≡ true
  back_low m n l e = grind (arith, nat_tests)

  back_high : (m n : ℕ) → m ≤ n → not (nat_lt k n) ≡ true → not (nat_lt k m) ≡ true
  back_high m n l e = grind (arith, nat_tests)

  pub below_parts : (xs : List X) → AllPairs Rises xs → IsPartitionedBy below xs
  below_parts xs pairs = parted Rises below (λ a b l e. back_low (key a) (key b) l e) xs pairs

  pub upto_parts : (xs : List X) → AllPairs Rises xs → IsPartitionedBy upto xs
  upto_parts xs pairs = parted Rises upto (λ a b l e. back_high (key a) (key b) l e) xs pairs

  pub key_ends : (xs : List X) → prefix_len below xs ≤ prefix_len upto xs
  key_ends xs = run_ends Rises below upto keep (λ x e. front_of (key x) e) (λ x e f. within_of (key x) e f) (λ x e. past_of (key x) e)
      (λ a b l e. low_of (key a) (key b) l e) (λ a b l e. high_of (key a) (key b) l e) xs

  pub key_run : (xs : List X) → AllPairs Rises xs → filter keep xs ≡ drop (prefix_len below xs) (take (prefix_len upto xs) xs)
  key_run xs pairs = run_is Rises below upto keep (λ x e. front_of (key x) e) (λ x e f. within_of (key x) e f) (λ x e. past_of (key x) e)
      (λ a b l e. low_of (key a) (key b) l e) (λ a b l e. high_of (key a) (key b) l e) xs pairs
