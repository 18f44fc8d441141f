-- Lists whose items stand in a relation to all later ones, and what `insert_by`, `find` and `remove_first` do to them.
use Rattle.std.proofs.Common.{◌≡◌, suc, Bool, true, false, if◌then◌else◌, List, [], ◌∷◌, get_or, Some, All, AllPairs, Contains, find, refl, subst, arith}
use Rattle.std.proofs.lemmas.List.Elements.{All-nil, All-cons, All-head, All-tail, All-weaker}
use Rattle.std.proofs.lemmas.List.Kept.{AllPairs-cons}
use Rattle.sx_guard.specs.Ordered.{insert_by, remove_first, IsLeast}

-- the first item stands so to all others
pub AllPairs-head : {X : Type 0} (R : X → X → Type 0) (x : X) (xs : List X) → AllPairs R (x ∷ xs) → All (R x) xs
AllPairs-head R x xs h = λ k d l. h 0 (suc k) d (omega arith) (omega arith)

-- the items behind the first stand so to each other
pub AllPairs-tail : {X : Type 0} (R : X → X → Type 0) (x : X) (xs : List X) → AllPairs R (x ∷ xs) → AllPairs R xs
AllPairs-tail R x xs h = λ i j d l m. h (suc i) (suc j) d (omega arith) (omega arith)

-- no item, no pair
pub AllPairs-nil : {X : Type 0} (R : X → X → Type 0) → AllPairs R []
AllPairs-nil R = λ i j d l m. absurd (omega arith)

-- a relation that follows
pub AllPairs-weaker : {X : Type 0} (R S : X → X → Type 0) → ((x y : X) → R x y → S x y) → (xs : List X) → AllPairs R xs → AllPairs S xs
AllPairs-weaker R S f xs h = λ i j d l m. f (get_or xs i d) (get_or xs j d) (h i j d l m)

-- what holds of the item put in and of all others
pub All-insert_by : {X : Type 0} (P : X → Type 0) (before : X → X → Bool) (x : X) (xs : List X) → P x → All P xs → All P (insert_by before x xs)
All-insert_by P before x [] p h = All-cons P x [] p h
All-insert_by P before x (y ∷ ys) p h =
    elim (before x y) as (λ b. All P (if b then x ∷ y ∷ ys else y ∷ insert_by before x ys)) [
      | true ↦ All-cons P x (y ∷ ys) p h
      | false ↦ All-cons P y (insert_by before x ys) (All-head P y ys h) (All-insert_by P before x ys p (All-tail P y ys h))
    ]

-- an item put in where it stands so to those behind it, and those in front of it to it
pub AllPairs-insert_by : {X : Type 0} (R : X → X → Type 0) (before : X → X → Bool) (x : X) (xs : List X)
    → ((y : X) → before x y ≡ true → R x y)
    → ((y z : X) → before x y ≡ true → R y z → R x z)
    → All (λ y. before x y ≡ false → R y x) xs
    → AllPairs R xs → AllPairs R (insert_by before x xs)
AllPairs-insert_by R before x [] here past back pairs = AllPairs-cons R x [] (All-nil (R x)) (AllPairs-nil R)
AllPairs-insert_by R before x (y ∷ ys) here past back pairs =
    elim (before x y) as (λ b. before x y ≡ b → AllPairs R (if b then x ∷ y ∷ ys else y ∷ insert_by before x ys)) [
      | true ↦ λ e. AllPairs-cons R x (y ∷ ys)
          (All-cons (R x) y ys (here y e) (All-weaker (R y) (R x) (λ z r. past y z e r) ys (AllPairs-head R y ys pairs))) pairs
      | false ↦ λ e. AllPairs-cons R y (insert_by before x ys)
          (All-insert_by (R y) before x ys (All-head (λ z. before x z ≡ false → R z x) y ys back e) (AllPairs-head R y ys pairs))
          (AllPairs-insert_by R before x ys here past (All-tail (λ z. before x z ≡ false → R z x) y ys back) (AllPairs-tail R y ys pairs))
    ] refl

-- an item put in that stands so to all others, and they to it
pub AllPairs-insert_any : {X : Type 0} (R : X → X → Type 0) (before : X → X → Bool) (x : X) (xs : List X)
    → All (R x) xs → All (λ y. R y x) xs → AllPairs R xs → AllPairs R (insert_by before x xs)
AllPairs-insert_any R before x [] to back pairs = AllPairs-cons R x [] (All-nil (R x)) (AllPairs-nil R)
AllPairs-insert_any R before x (y ∷ ys) to back pairs =
    elim (before x y) as (λ b. AllPairs R (if b then x ∷ y ∷ ys else y ∷ insert_by before x ys)) [
      | true ↦ AllPairs-cons R x (y ∷ ys) to pairs
      | false ↦ AllPairs-cons R y (insert_by before x ys)
          (All-insert_by (R y) before x ys (All-head (λ z. R z x) y ys back) (AllPairs-head R y ys pairs))
          (AllPairs-insert_any R before x ys (All-tail (R x) y ys to) (All-tail (λ z. R z x) y ys back) (AllPairs-tail R y ys pairs))
    ]

-- the first that passes a test is the least, in a list that is in order
pub find-least : {X : Type 0} (before : X → X → Bool) (test : X → Bool) (xs : List X) (x : X)
    → ((y : X) → before y y ≡ false)
    → AllPairs (λ a b. before b a ≡ false) xs
    → find test xs ≡ Some x → All (λ y. test y ≡ true → before y x ≡ false) xs
find-least before test [] x same pairs = λ e. All-nil (λ y. test y ≡ true → before y x ≡ false)
find-least before test (y ∷ ys) x same pairs =
    elim (test y) as (λ b. test y ≡ b → (if b then Some y else find test ys) ≡ Some x → All (λ z. test z ≡ true → before z x ≡ false) (y ∷ ys)) [
      | true ↦ λ t e. let i : y ≡ x = cc in
          subst (λ w. All (λ z. test z ≡ true → before z w ≡ false) (y ∷ ys)) i
          (All-cons (λ z. test z ≡ true → before z y ≡ false) y ys (λ u. same y)
          (All-weaker (λ z. before z y ≡ false) (λ z. test z ≡ true → before z y ≡ false) (λ z r u. r) ys
          (AllPairs-head (λ a b. before b a ≡ false) y ys pairs)))
      | false ↦ λ t e. All-cons (λ z. test z ≡ true → before z x ≡ false) y ys (λ u. cc)
          (find-least before test ys x same (AllPairs-tail (λ a b. before b a ≡ false) y ys pairs) e)
    ] refl

-- an item that is found is in the list and passes
pub find-listed : {X : Type 0} (test : X → Bool) (xs : List X) (x : X) → find test xs ≡ Some x → Contains xs x × (test x ≡ true)
find-listed test [] x = λ e. absurd cc
find-listed test (y ∷ ys) x =
    elim (test y) as (λ b. test y ≡ b → (if b then Some y else find test ys) ≡ Some x → Contains (y ∷ ys) x × (test x ≡ true)) [
      | true ↦ λ t e. let i : y ≡ x = cc in ((0, omega arith, i), cc)
      | false ↦ λ t e. let h = find-listed test ys x e in ((suc h.0.0, omega arith, h.0.2), h.1)
    ] refl

-- the first that passes is the least, in a list that is in order
pub IsLeast-find : {X : Type 0} (before : X → X → Bool) (test : X → Bool) (xs : List X) (x : X)
    → ((y : X) → before y y ≡ false)
    → AllPairs (λ a b. before b a ≡ false) xs
    → find test xs ≡ Some x → IsLeast before test xs x
IsLeast-find before test xs x same pairs e = record {
  listed = (find-listed test xs x e).0;
  passes = (find-listed test xs x e).1;
  least = find-least before test xs x same pairs e;
}

-- what holds of all items, without the first that passes
pub All-remove_first : {X : Type 0} (P : X → Type 0) (test : X → Bool) (xs : List X) → All P xs → All P (remove_first test xs)
All-remove_first P test [] h = h
All-remove_first P test (x ∷ xs) h =
    elim (test x) as (λ b. All P (if b then xs else x ∷ remove_first test xs)) [
      | true ↦ All-tail P x xs h
      | false ↦ All-cons P x (remove_first test xs) (All-head P x xs h) (All-remove_first P test xs (All-tail P x xs h))
    ]

-- how the items stand to each other, without the first that passes
pub AllPairs-remove_first : {X : Type 0} (R : X → X → Type 0) (test : X → Bool) (xs : List X) → AllPairs R xs → AllPairs R (remove_first test xs)
AllPairs-remove_first R test [] h = h
AllPairs-remove_first R test (x ∷ xs) h =
    elim (test x) as (λ b. AllPairs R (if b then xs else x ∷ remove_first test xs)) [
      | true ↦ AllPairs-tail R x xs h
      | false ↦ AllPairs-cons R x (remove_first test xs) (All-remove_first (R x) test xs (AllPairs-head R x xs h)) (AllPairs-remove_first R test xs (AllPairs-tail R x xs h))
    ]
