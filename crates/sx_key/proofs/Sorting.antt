-- A list of texts in order whose sums are another's is that one sorted_texts.
use Rattle.std.proofs.Common.{◌≡◌, ℕ, suc, ◌+◌, ◌<◌, Bool, true, false, cond, List, [], ◌∷◌, length, map, get_or, subst, if◌then◌else◌, refl, sym, ap, ◌∙◌, arith, suc-le-suc, zero-le}
use Rattle.std.specs.Prelude.{⊤}
use Rattle.std.specs.Ordering.{nat_cmp, is_gt, is_lt, ordering_reverse}
use Rattle.std.specs.Cmp.Lexicographic.{slice_cmp}
use Rattle.std.specs.List.{sum_by}
use Rattle.std.specs.List.Sorted.{IsSorted, IsPermutation}
use Rattle.std.specs.declared.cmp.Ordering.{Ordering}
use Rattle.std.specs.declared.cmp.Ordering.TheVariants.{Less, Equal, Greater}
use Rattle.std.proofs.lemmas.Cmp.{upto, tied_itself, nat_list_cmp_total}
use Rattle.std.proofs.lemmas.List.Sorted.{sum_by-IsPermutation}
use Rattle.std.proofs.lemmas.List.Sums.{sum_by-cons}
use Rattle.std.proofs.lemmas.Map.Lookups.{exact_bytes}
use Rattle.sx_key.specs.Texts.{insert_text, sorted_texts}

abbrev pub order : List ℕ → List ℕ → Ordering
order x y = slice_cmp nat_cmp x y

-- x isn't above y
abbrev pub Upto : List ℕ → List ℕ → Type 0
Upto x y = is_gt (order x y) ≡ false

abbrev pub Below : List ℕ → List (List ℕ) → Type 0
Below t [] = ⊤
Below t (u ∷ us) = Upto t u × Below t us

abbrev pub Ascends : List (List ℕ) → Type 0
Ascends [] = ⊤
Ascends (t ∷ ts) = Below t ts × Ascends ts

abbrev pub Same : List (List ℕ) → List (List ℕ) → Type 0
Same xs ys = (f : List ℕ → ℕ) → sum_by f xs ≡ sum_by f ys

differ : true ≡ false → ⊥
differ e = cc

back_upto : (r : Ordering) → is_gt r ≡ true → is_gt (ordering_reverse r) ≡ false
back_upto Less e = cc
back_upto Equal e = cc
back_upto Greater e = refl

-- what stands above another has that one up to it
pub turned : (t u : List ℕ) → is_gt (order t u) ≡ true → Upto u t
turned t u e = ap is_gt (nat_list_cmp_total.antisymm u t) ∙ back_upto (order t u) e

level : (r : Ordering) → is_gt r ≡ false → is_gt (ordering_reverse r) ≡ false → r ≡ Equal
level Less e f = cc
level Equal e f = refl
level Greater e f = cc

pub both_upto : (x y : List ℕ) → Upto x y → Upto y x → x ≡ y
both_upto x y h k = exact_bytes x y (level (order x y) h (sym (ap is_gt (nat_list_cmp_total.antisymm y x)) ∙ k))

pub below_from : (t u : List ℕ) (us : List (List ℕ)) → Upto t u → Below u us → Below t us
below_from t u [] h b = tt
below_from t u (v ∷ us) h b = (upto nat_list_cmp_total t u v h b.0, below_from t u us h b.1)

insert_below_by : (t u v : List ℕ) (us : List (List ℕ)) (b : Bool) → Upto t u → Below t (v ∷ us) → Below t (insert_text u us) → Below t (if b then v ∷ insert_text u us else u ∷ v ∷ us)
insert_below_by t u v us true h b rest = (b.0, rest)
insert_below_by t u v us false h b rest = (h, b)

insert_below : (t u : List ℕ) (us : List (List ℕ)) → Upto t u → Below t us → Below t (insert_text u us)
insert_below t u [] h b = (h, tt)
insert_below t u (v ∷ us) h b = insert_below_by t u v us (is_gt (order u v)) h b (insert_below t u us h b.1)

insert_ascends_by : (t u : List ℕ) (us : List (List ℕ)) (b : Bool) → is_gt (order t u) ≡ b → Ascends (u ∷ us) → Ascends (insert_text t us) → Ascends (if b then u ∷ insert_text t us else t ∷ u ∷ us)
insert_ascends_by t u us true e a rest = (insert_below u t us (turned t u e) a.0, rest)
insert_ascends_by t u us false e a rest = ((e, below_from t u us e a.0), a)

insert_ascends : (t : List ℕ) (us : List (List ℕ)) → Ascends us → Ascends (insert_text t us)
insert_ascends t [] a = (tt, tt)
insert_ascends t (u ∷ us) a = insert_ascends_by t u us (is_gt (order t u)) refl a (insert_ascends t us a.1)

pub sorted_ascends : (ts : List (List ℕ)) → Ascends (sorted_texts ts)
sorted_ascends [] = tt
sorted_ascends (t ∷ ts) = insert_ascends t (sorted_texts ts) (sorted_ascends ts)

insert_sum_by : (f : List ℕ → ℕ) (t u : List ℕ) (us : List (List ℕ)) (b : Bool) → sum_by f (insert_text t us) ≡ f t + sum_by f us → sum_by f (if b then u ∷ insert_text t us else t ∷ u ∷ us) ≡ f t + sum_by f (u ∷ us)
insert_sum_by f t u us true rest =
    let a = sum_by-cons f u (insert_text t us) in
    let b = sum_by-cons f u us in
    omega (arith, a, b, rest)
insert_sum_by f t u us false rest = sum_by-cons f t (u ∷ us)

insert_sum : (f : List ℕ → ℕ) (t : List ℕ) (us : List (List ℕ)) → sum_by f (insert_text t us) ≡ f t + sum_by f us
insert_sum f t [] = sum_by-cons f t []
insert_sum f t (u ∷ us) = insert_sum_by f t u us (is_gt (order t u)) (insert_sum f t us)

pub sorted_sum : (f : List ℕ → ℕ) (ts : List (List ℕ)) → sum_by f (sorted_texts ts) ≡ sum_by f ts
sorted_sum f [] = refl
sorted_sum f (t ∷ ts) =
    let a = insert_sum f t (sorted_texts ts) in
    let b = sorted_sum f ts in
    let c = sum_by-cons f t ts in
    omega (arith, a, b, c)

-- counts the texts that aren't above x
abbrev counts : List ℕ → List ℕ → ℕ
counts x u = cond (is_gt (order u x)) 0 1

true_by : (b : Bool) → (b ≡ false → ⊥) → b ≡ true
true_by true f = refl
true_by false f = absurd (f refl)

above : (x y u : List ℕ) → is_gt (order y x) ≡ true → Upto y u → is_gt (order u x) ≡ true
above x y u g h = true_by (is_gt (order u x)) (λ no. differ (sym g ∙ upto nat_list_cmp_total y u x h no))

none_counts : (x y : List ℕ) (us : List (List ℕ)) → is_gt (order y x) ≡ true → Below y us → sum_by (counts x) us ≡ 0
none_counts x y [] g b = refl
none_counts x y (u ∷ us) g b =
    let a = sum_by-cons (counts x) u us in
    let z : counts x u ≡ 0 = ap (λ r. cond r 0 1) (above x y u g b.0) in
    let rest = none_counts x y us g b.1 in
    omega (arith, a, z, rest)

-- the first of one isn't above the first of the other
firsts : (x y : List ℕ) (xs ys : List (List ℕ)) → Below y ys → Same (x ∷ xs) (y ∷ ys) → Upto y x
firsts x y xs ys b s = false_by (is_gt (order y x)) (λ g.
    let one : counts x x ≡ 1 = ap (λ r. cond (is_gt r) 0 1) (tied_itself nat_list_cmp_total x) in
    let none : counts x y ≡ 0 = ap (λ r. cond r 0 1) g in
    let rest = none_counts x y ys g b in
    let same = s (counts x) in
    let left = sum_by-cons (counts x) x xs in
    let right = sum_by-cons (counts x) y ys in
    omega (arith, one, none, rest, same, left, right))
  where
    false_by : (b : Bool) → (b ≡ true → ⊥) → b ≡ false
    false_by true f = absurd (f refl)
    false_by false f = refl

pub one_sorted : (xs ys : List (List ℕ)) → Ascends xs → Ascends ys → Same xs ys → xs ≡ ys
one_sorted [] [] a b s = refl
one_sorted [] (y ∷ ys) a b s =
    let same = s (λ _. 1) in
    let right = sum_by-cons (λ (_ : List ℕ). 1) y ys in
    absurd (omega (arith, same, right))
one_sorted (x ∷ xs) [] a b s =
    let same = s (λ _. 1) in
    let left = sum_by-cons (λ (_ : List ℕ). 1) x xs in
    absurd (omega (arith, same, left))
one_sorted (x ∷ xs) (y ∷ ys) a b s =
    let e : x ≡ y = both_upto x y (firsts y x ys xs a.0 (λ f. sym (s f))) (firsts x y xs ys b.0 s) in
    let rest : xs ≡ ys = one_sorted xs ys a.1 b.1 (λ f.
    let same = s f in
    let left = sum_by-cons f x xs in
    let right = sum_by-cons f y ys in
    let heads : f x ≡ f y = ap f e in
    omega (arith, same, left, right, heads)) in
    rw (e, rest) refl

lt_turned : (r : Ordering) → is_gt (ordering_reverse r) ≡ is_lt r
lt_turned Less = refl
lt_turned Equal = refl
lt_turned Greater = refl

abbrev pub Rises : {X : Type 0} → (X → List ℕ) → List X → Type 0
Rises {X} f xs = (k : ℕ) (d : X) → suc k < length xs → is_lt (order (f (get_or xs (suc k) d)) (f (get_or xs k d))) ≡ false

pub rises_from : {X : Type 0} (f : X → List ℕ) (xs : List X) → IsSorted (λ x y. order (f x) (f y)) xs → Rises f xs
rises_from f xs h k d lt =
    let e : k + 1 ≡ suc k = omega arith in
    subst (λ j. is_lt (order (f (get_or xs j d)) (f (get_or xs k d))) ≡ false) e (h k d zero-le (omega (arith, lt)))

pub ascends_from : {X : Type 0} (f : X → List ℕ) (xs : List X) → Rises f xs → Ascends (map f xs)
ascends_from f [] h = tt
ascends_from f (x ∷ []) h = (tt, tt)
ascends_from f (x ∷ y ∷ ys) h =
    let rest = ascends_from f (y ∷ ys) (λ k d lt. h (suc k) d (suc-le-suc lt)) in
    let first : Upto (f x) (f y) = ap is_gt (nat_list_cmp_total.antisymm (f x) (f y)) ∙ lt_turned (order (f y) (f x)) ∙ h 0 x (suc-le-suc (suc-le-suc zero-le)) in
    ((first, below_from (f x) (f y) (map f ys) first rest.0), rest)

pub sum_of_map : {X : Type 0} (g : List ℕ → ℕ) (f : X → List ℕ) (xs : List X) → sum_by g (map f xs) ≡ sum_by (λ x. g (f x)) xs
sum_of_map g f [] = refl
sum_of_map g f (x ∷ xs) =
    let a = sum_by-cons g (f x) (map f xs) in
    let b = sum_by-cons (λ x. g (f x)) x xs in
    let rest = sum_of_map g f xs in
    omega (arith, a, b, rest)

-- what a sort leaves
pub sorted_is : {X : Type 0} (f : X → List ℕ) (xs ys : List X) → IsPermutation xs ys → IsSorted (λ x y. order (f x) (f y)) ys → map f ys ≡ sorted_texts (map f xs)
sorted_is f xs ys p h = one_sorted (map f ys) (sorted_texts (map f xs)) (ascends_from f ys (rises_from f ys h)) (sorted_ascends (map f xs))
    (λ g. sum_of_map g f ys ∙ sum_by-IsPermutation (λ x. g (f x)) xs ys p ∙ sym (sum_of_map g f xs) ∙ sym (sorted_sum g (map f xs)))
