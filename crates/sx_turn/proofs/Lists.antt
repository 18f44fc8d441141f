-- Sums over lists, facts on each item, and beginnings of lists.
use Rattle.std.proofs.Common.{◌≡◌, ◌≢◌, ◌⊎◌, ⊎_elim, ℕ, zero, suc, ◌+◌, ◌<◌, ◌≤◌, ltb, Bool, true, false, List, [], ◌∷◌, ◌++◌, length, set, refl, ap, sym, ◌∙◌, length-append, if◌then◌else◌, arith, Option, Some, None, append_assoc, append-nil}
use Rattle.std.specs.List.{AllByRecursion, sum_by}
use mathlib.Core.Option.{some, some-injective, some-ne-none}
use mathlib.Core.List.{IsPrefix}
use lib.ListN.{get_elem?}
use Rattle.sx_turn.specs.Places.{longer}
use Rattle.std.proofs.lemmas.Bool.Decides.{nat_tests}
use Rattle.std.proofs.lemmas.List.Sums.{sum_by-cons}
use Rattle.atomic_table.specs.Table.{rest}

module _ {A : Type 0} (f : A → ℕ) where
  -- the sum after one item is set
  pub sum_by_set : (l : List A) (i : ℕ) (v w : A) → get_elem? l i ≡ some v → sum_by f (set l i w) + f v ≡ sum_by f l + f w
  sum_by_set [] i v w e = absurd (some-ne-none v (sym e))
  sum_by_set (x ∷ xs) zero v w e = let k : f x ≡ f v = ap f (some-injective x v e) in omega (arith, sum_by-cons f x xs, sum_by-cons f w xs)
  sum_by_set (x ∷ xs) (suc i) v w e = let h = sum_by_set xs i v w e in omega (arith, sum_by-cons f x xs, sum_by-cons f x (set xs i w))

  -- an item weighs at most the sum
  pub sum_by_at : (l : List A) (i : ℕ) (v : A) → get_elem? l i ≡ some v → f v ≤ sum_by f l
  sum_by_at [] i v e = absurd (some-ne-none v (sym e))
  sum_by_at (x ∷ xs) zero v e = let k : f x ≡ f v = ap f (some-injective x v e) in omega (arith, sum_by-cons f x xs)
  sum_by_at (x ∷ xs) (suc i) v e = let h = sum_by_at xs i v e in omega (arith, sum_by-cons f x xs)

  -- where no item weighs anything, the sum is 0
  pub sum_by_none : (l : List A) → ((j : ℕ) (u : A) → get_elem? l j ≡ some u → f u ≡ 0) → sum_by f l ≡ 0
  sum_by_none [] z = refl
  sum_by_none (x ∷ xs) z = let h = sum_by_none xs (λ j u e. z (suc j) u e) in let k : f x ≡ 0 = z zero x refl in omega (arith, sum_by-cons f x xs)

  -- where the others weigh nothing, the sum is the one's weight
  pub sum_by_only : (l : List A) (i : ℕ) (v : A) → get_elem? l i ≡ some v → ((j : ℕ) (u : A) → j ≢ i → get_elem? l j ≡ some u → f u ≡ 0) → sum_by f l ≡ f v
  sum_by_only [] i v e z = absurd (some-ne-none v (sym e))
  sum_by_only (x ∷ xs) zero v e z = let k : f x ≡ f v = ap f (some-injective x v e) in let h = sum_by_none xs (λ j u e. z (suc j) u (λ q. absurd (omega (arith, q))) e) in omega (arith, sum_by-cons f x xs)
  sum_by_only (x ∷ xs) (suc i) v e z = let k : f x ≡ 0 = z zero x (λ q. absurd (omega (arith, q))) refl in let h = sum_by_only xs i v e (λ j u ne e. z (suc j) u (λ q. ne (omega (arith, q))) e) in omega (arith, sum_by-cons f x xs)

  -- two items weigh at most the sum
  pub sum_by_two : (l : List A) (i j : ℕ) (v w : A) → i ≢ j → get_elem? l i ≡ some v → get_elem? l j ≡ some w → f v + f w ≤ sum_by f l
  sum_by_two [] i j v w n e d = absurd (some-ne-none v (sym e))
  sum_by_two (x ∷ xs) zero zero v w n e d = absurd (n refl)
  sum_by_two (x ∷ xs) zero (suc j) v w n e d = let k : f x ≡ f v = ap f (some-injective x v e) in let h = sum_by_at xs j w d in omega (arith, sum_by-cons f x xs)
  sum_by_two (x ∷ xs) (suc i) zero v w n e d = let k : f x ≡ f w = ap f (some-injective x w d) in let h = sum_by_at xs i v e in omega (arith, sum_by-cons f x xs)
  sum_by_two (x ∷ xs) (suc i) (suc j) v w n e d = let h = sum_by_two xs i j v w (λ q. n (ap suc q)) e d in omega (arith, sum_by-cons f x xs)

module _ {A : Type 0} where
  -- where there is an item, the list is longer
  pub inside : (l : List A) (i : ℕ) (v : A) → get_elem? l i ≡ some v → i < length l
  inside [] i v e = absurd (some-ne-none v (sym e))
  inside (x ∷ xs) zero v e = omega arith
  inside (x ∷ xs) (suc i) v e = let h = inside xs i v e in omega arith

  -- a list begins itself
  pub prefix_self : (xs : List A) → IsPrefix xs xs
  prefix_self xs = ([], append-nil xs)

  -- a beginning of a list begins each longer one
  pub prefix_more : (xs ys : List A) (rest : List A) → IsPrefix xs ys → IsPrefix xs (ys ++ rest)
  prefix_more xs ys rest p = (p.0 ++ rest, sym (append_assoc xs p.0 rest) ∙ ap (λ w. w ++ rest) p.1)

  -- what holds of each item has its consequences for each
  pub each_map : (P Q : A → Type 0) → ((x : A) → P x → Q x) → (xs : List A) → AllByRecursion P xs → AllByRecursion Q xs
  each_map P Q f [] e = tt
  each_map P Q f (x ∷ xs) e = (f x e.0, each_map P Q f xs e.1)

  -- what holds of each item and of one more
  pub each_snoc : (P : A → Type 0) (xs : List A) (x : A) → AllByRecursion P xs → P x → AllByRecursion P (xs ++ x ∷ [])
  each_snoc P [] x e p = (p, tt)
  each_snoc P (y ∷ ys) x e p = (e.0, each_snoc P ys x e.1 p)

  -- of two beginnings of a list the shorter begins the longer
  pub prefix_shorter : (xs ys zs : List A) → IsPrefix xs zs → IsPrefix ys zs → length xs ≤ length ys → IsPrefix xs ys
  prefix_shorter [] ys zs p q le = (ys, refl)
  prefix_shorter (x ∷ xs) [] zs p q le = absurd (omega arith)
  prefix_shorter (x ∷ xs) (y ∷ ys) [] p q le = absurd (cc (p.1))
  prefix_shorter (x ∷ xs) (y ∷ ys) (z ∷ zs) p q le =
      let heads : x ≡ y = cc (p.1, q.1) in
      let rest = prefix_shorter xs ys zs (p.0, cc (p.1)) (q.0, cc (q.1)) (omega arith) in
      (rest.0, cc (heads, rest.1))

  -- a beginning that is as long as the list is the list
  pub prefix_whole : (xs ys : List A) → IsPrefix xs ys → length ys ≤ length xs → xs ≡ ys
  prefix_whole [] [] p le = refl
  prefix_whole [] (y ∷ ys) p le = absurd (omega arith)
  prefix_whole (x ∷ xs) [] p le = absurd (cc (p.1))
  prefix_whole (x ∷ xs) (y ∷ ys) p le = let rest = prefix_whole xs ys (p.0, cc (p.1)) (omega arith) in cc (p.1, rest)

  -- a beginning is no longer than the list
  pub prefix_length : (xs ys : List A) → IsPrefix xs ys → length xs ≤ length ys
  prefix_length xs ys p = omega (arith, sym (ap length p.1) ∙ length-append xs p.0)

  -- a list that adds no length is empty
  pub none_left : (xs ys : List A) → length (xs ++ ys) ≡ length xs → ys ≡ []
  none_left [] [] e = refl
  none_left [] (y ∷ ys) e = absurd (omega arith)
  none_left (x ∷ xs) ys e = none_left xs ys (omega arith)

  -- what holds of each item of two lists
  pub each_append : (P : A → Type 0) (xs ys : List A) → AllByRecursion P xs → AllByRecursion P ys → AllByRecursion P (xs ++ ys)
  each_append P [] ys e f = f
  each_append P (x ∷ xs) ys e f = (e.0, each_append P xs ys e.1 f)

  -- what holds of each item of two lists holds in the first
  pub each_first : (P : A → Type 0) (xs ys : List A) → AllByRecursion P (xs ++ ys) → AllByRecursion P xs
  each_first P [] ys e = tt
  each_first P (x ∷ xs) ys e = (e.0, each_first P xs ys e.1)

  -- an option that is no value is none
  pub none_if : (o : Option A) → ((x : A) → o ≢ Some x) → o ≡ None
  none_if None f = refl
  none_if (Some x) f = absurd (f x refl)

module _ {E : Type 0} where
  -- of two beginnings of a list the first begins the longer
  pub longer_left : (x y log : List E) → IsPrefix x log → IsPrefix y log → IsPrefix x (longer x y)
  longer_left x y log p q = pick (ltb (length x) (length y)) refl where
    pick : (t : Bool) → ltb (length x) (length y) ≡ t → IsPrefix x (if t then y else x)
    pick true e = prefix_shorter x y log p q (grind (arith, nat_tests))
    pick false e = prefix_self x

  -- of two beginnings of a list the second begins the longer
  pub longer_right : (x y log : List E) → IsPrefix x log → IsPrefix y log → IsPrefix y (longer x y)
  longer_right x y log p q = pick (ltb (length x) (length y)) refl where
    pick : (t : Bool) → ltb (length x) (length y) ≡ t → IsPrefix y (if t then y else x)
    pick true e = prefix_self y
    pick false e = prefix_shorter y x log q p (grind (arith, nat_tests))

  -- the longer of two beginnings of a list begins it
  pub longer_within : (x y log : List E) → IsPrefix x log → IsPrefix y log → IsPrefix (longer x y) log
  longer_within x y log p q = pick (ltb (length x) (length y)) where
    pick : (t : Bool) → IsPrefix (if t then y else x) log
    pick true = q
    pick false = p

  -- where one of two beginnings is the whole list, the longer is
  pub longer_whole : (x y log : List E) → IsPrefix x log → IsPrefix y log → (x ≡ log) ⊎ (y ≡ log) → longer x y ≡ log
  longer_whole x y log p q one = ⊎_elim
      (λ (e : x ≡ log). prefix_whole (longer x y) log (longer_within x y log p q) (let l = prefix_length x (longer x y) (longer_left x y log p q) in let n : length x ≡ length log = ap length e in omega arith))
      (λ (e : y ≡ log). prefix_whole (longer x y) log (longer_within x y log p q) (let l = prefix_length y (longer x y) (longer_right x y log p q) in let n : length y ≡ length log = ap length e in omega arith))
      one
