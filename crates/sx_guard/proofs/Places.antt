-- The places at which code inserts and removes, against the words of `Ordered`.
use Rattle.std.proofs.Common.{◌≡◌, ℕ, ◌+◌, ◌≤◌, suc, nat_lt, Bool, true, false, not, if◌then◌else◌, List, [], ◌∷◌, Option, Some, None, MatchOption, IsSomeAnd, option_map, All, AllPairs, filter, find, insert, length, position, remove, unwrap_or, refl, ap, ◌∙◌, ◌||◌, sym, arith}
use Rattle.std.specs.List.{list_any, position_or_len}
use Rattle.std.proofs.lemmas.Bool.Decides.{nat_tests}
use Rattle.std.proofs.lemmas.List.Sums.{prefix_len-le-length}
use Rattle.std.proofs.lemmas.List.Elements.{All-head, All-nil, All-cons, All-tail, All-weaker}
use Rattle.sx_guard.proofs.Pairs.{AllPairs-head, AllPairs-tail}
use Rattle.sx_guard.specs.Ordered.{insert_by, remove_first}

-- the next number, as code counts and as lists do
one_more : (n : ℕ) → suc n ≡ 1 + n
one_more n = omega arith

-- an insert at the first place that the item comes before
pub insert_by-is : {X : Type 0} (before : X → X → Bool) (x : X) (xs : List X) → insert_by before x xs ≡ insert xs (position_or_len (before x) xs) x
insert_by-is before x [] = refl
insert_by-is before x (y ∷ ys) =
    elim (before x y) as (λ b. (if b then x ∷ y ∷ ys else y ∷ insert_by before x ys) ≡ insert (y ∷ ys) (if not b then 1 + position_or_len (before x) ys else 0) x) [
      | true ↦ refl
      | false ↦ ap (λ zs. y ∷ zs) (insert_by-is before x ys)
          ∙ ap (λ k. insert (y ∷ ys) k x) (one_more (position_or_len (before x) ys))
    ]

-- a remove at the first place that passes
pub remove_first-is : {X : Type 0} (test : X → Bool) (xs : List X) → remove_first test xs ≡ remove xs (position_or_len test xs)
remove_first-is test [] = refl
remove_first-is test (x ∷ xs) =
    elim (test x) as (λ b. (if b then xs else x ∷ remove_first test xs) ≡ remove (x ∷ xs) (if not b then 1 + position_or_len test xs else 0)) [
      | true ↦ refl
      | false ↦ ap (λ zs. x ∷ zs) (remove_first-is test xs)
          ∙ ap (λ k. remove (x ∷ xs) k) (one_more (position_or_len test xs))
    ]

-- a filter that all items pass
pub filter-all : {X : Type 0} (test : X → Bool) (xs : List X) → All (λ x. test x ≡ true) xs → filter test xs ≡ xs
filter-all test [] all = refl
filter-all test (x ∷ xs) all =
    rw (All-head (λ y. test y ≡ true) x xs all) (ap (λ zs. x ∷ zs) (filter-all test xs (All-tail (λ y. test y ≡ true) x xs all)))

-- no item that passes is left, where each stands once
pub remove_first-filter : {X : Type 0} (test : X → Bool) (xs : List X)
    → AllPairs (λ x y. test x ≡ true → test y ≡ false) xs → remove_first test xs ≡ filter (λ x. not (test x)) xs
remove_first-filter test [] once = refl
remove_first-filter test (x ∷ xs) once =
    elim (test x) as (λ b. test x ≡ b → (if b then xs else x ∷ remove_first test xs) ≡ (if not b then x ∷ filter (λ y. not (test y)) xs else filter (λ y. not (test y)) xs)) [
      | true ↦ λ e. sym (filter-all (λ y. not (test y)) xs
          (All-weaker (λ y. test x ≡ true → test y ≡ false) (λ y. not (test y) ≡ true) (λ y f. ap not (f e)) xs
          (AllPairs-head (λ y z. test y ≡ true → test z ≡ false) x xs once)))
      | false ↦ λ e. ap (λ zs. x ∷ zs) (remove_first-filter test xs (AllPairs-tail (λ y z. test y ≡ true → test z ≡ false) x xs once))
    ] refl

-- nothing to remove
pub remove_first-none : {X : Type 0} (test : X → Bool) (xs : List X) → list_any test xs ≡ false → remove_first test xs ≡ xs
remove_first-none test [] = λ none. refl
remove_first-none test (x ∷ xs) =
    elim (test x) as (λ b. (b || list_any test xs) ≡ false → (if b then xs else x ∷ remove_first test xs) ≡ x ∷ xs) [
      | true ↦ λ none. absurd (cc)
      | false ↦ λ none. ap (λ zs. x ∷ zs) (remove_first-none test xs none)
    ]

-- there is a first place exactly where an item passes
pub first_place : {X : Type 0} (test : X → Bool) (xs : List X) → nat_lt (position_or_len test xs) (length xs) ≡ list_any test xs
first_place test [] = refl
first_place test (x ∷ xs) =
    elim (test x) as (λ b. nat_lt (if not b then 1 + position_or_len test xs else 0) (length (x ∷ xs)) ≡ (b || list_any test xs)) [
      | true ↦ grind (arith, nat_tests)
      | false ↦ later (position_or_len test xs) (length xs) ∙ first_place test xs
    ]
  where
    later : (m n : ℕ) → nat_lt (1 + m) (suc n) ≡ nat_lt m n
    later m n = grind (arith, nat_tests)

-- the place that `position` finds
pub place-Some : {X : Type 0} (test : X → Bool) (xs : List X) (i : ℕ) → position test xs ≡ Some i → (list_any test xs ≡ true) × (i ≡ position_or_len test xs)
place-Some test xs i =
    rw (← first_place test xs) (elim (nat_lt (position_or_len test xs) (length xs)) as (λ b. (if b then Some (position_or_len test xs) else None) ≡ Some i → (b ≡ true) × (i ≡ position_or_len test xs)) [
      | true ↦ λ e. (refl, cc)
      | false ↦ λ e. absurd cc
    ])

-- `position` finds nothing
pub place-None : {X : Type 0} (test : X → Bool) (xs : List X) → position test xs ≡ None → list_any test xs ≡ false
place-None test xs =
    rw (← first_place test xs) (elim (nat_lt (position_or_len test xs) (length xs)) as (λ b. (if b then Some (position_or_len test xs) else None) ≡ None → b ≡ false) [
      | true ↦ λ e. absurd cc
      | false ↦ λ e. refl
    ])

-- the place that `position` finds, or the end
pub place-or_end : {X : Type 0} (test : X → Bool) (xs : List X) → unwrap_or (position test xs) (length xs) ≡ position_or_len test xs
place-or_end test xs =
    let within : position_or_len test xs ≤ length xs = prefix_len-le-length (λ x. not (test x)) xs in
    grind (arith, nat_tests)

-- a remove at the place that `position` finds
pub remove-place : {X : Type 0} (test : X → Bool) (xs : List X) (i : ℕ) → position test xs ≡ Some i → remove xs i ≡ remove_first test xs
remove-place test xs i e = ap (λ k. remove xs k) (place-Some test xs i e).1 ∙ sym (remove_first-is test xs)

-- no item passes
pub All-list_any : {X : Type 0} (test : X → Bool) (xs : List X) → list_any test xs ≡ false → All (λ x. test x ≡ false) xs
All-list_any test [] = λ e. All-nil (λ x. test x ≡ false)
All-list_any test (x ∷ xs) =
    elim (test x) as (λ b. test x ≡ b → (b || list_any test xs) ≡ false → All (λ y. test y ≡ false) (x ∷ xs)) [
      | true ↦ λ t e. absurd cc
      | false ↦ λ t e. All-cons (λ y. test y ≡ false) x xs t (All-list_any test xs e)
    ] refl

-- none is found
pub All-find : {X : Type 0} (test : X → Bool) (xs : List X) → find test xs ≡ None → All (λ x. test x ≡ false) xs
All-find test [] = λ e. All-nil (λ x. test x ≡ false)
All-find test (x ∷ xs) =
    elim (test x) as (λ b. test x ≡ b → (if b then Some x else find test xs) ≡ None → All (λ y. test y ≡ false) (x ∷ xs)) [
      | true ↦ λ t e. absurd cc
      | false ↦ λ t e. All-cons (λ y. test y ≡ false) x xs t (All-find test xs e)
    ] refl

-- what `map` makes of what was found
pub option_map-found : {A B C : Type 0} (view : A → B) (f : B → C) (P : A → C → Type 0) (found : Option A) (r : Option C)
    → ((x : A) (y : C) → P x y → y ≡ f (view x)) → MatchOption found (r ≡ None) (λ x. IsSomeAnd r (P x)) → r ≡ option_map f (option_map view found)
option_map-found view f P None r says h = h
option_map-found view f P (Some x) None says h = absurd h
option_map-found view f P (Some x) (Some y) says h = ap Some (says x y h)
