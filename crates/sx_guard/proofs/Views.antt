-- An ordered list seen through a map or a filter, as a file's opens are of the opens of all files.
use Rattle.std.proofs.Common.{◌≡◌, Bool, true, false, if◌then◌else◌, List, [], ◌∷◌, Some, All, AllPairs, ◌++◌, filter, find, map, option_map, refl, ap, sym, ◌∙◌}
use Rattle.std.proofs.lemmas.List.Elements.{All-cons, All-filter, All-head, All-nil, All-tail, All-weaker}
use Rattle.sx_guard.specs.Ordered.{insert_by}
use Rattle.sx_guard.proofs.Pairs.{AllPairs-head, AllPairs-tail}

-- the first item of a mapped list that passes
pub find-map : {X Y : Type 0} (f : X → Y) (test : Y → Bool) (xs : List X) → find test (map f xs) ≡ option_map f (find (λ x. test (f x)) xs)
find-map f test [] = refl
find-map f test (x ∷ xs) =
    elim (test (f x)) as (λ b. (if b then Some (f x) else find test (map f xs)) ≡ option_map f (if b then Some x else find (λ y. test (f y)) xs)) [
      | true ↦ refl
      | false ↦ find-map f test xs
    ]

-- an insert into a mapped list
pub insert_by-map : {X Y : Type 0} (f : X → Y) (before : Y → Y → Bool) (x : X) (xs : List X)
    → insert_by before (f x) (map f xs) ≡ map f (insert_by (λ a b. before (f a) (f b)) x xs)
insert_by-map f before x [] = refl
insert_by-map f before x (y ∷ ys) =
    elim (before (f x) (f y)) as (λ b. (if b then f x ∷ f y ∷ map f ys else f y ∷ insert_by before (f x) (map f ys))
    ≡ map f (if b then x ∷ y ∷ ys else y ∷ insert_by (λ a c. before (f a) (f c)) x ys)) [
      | true ↦ refl
      | false ↦ ap (λ zs. f y ∷ zs) (insert_by-map f before x ys)
    ]

-- an insert by two orders that agree on the items that are there
pub insert_by-same : {X : Type 0} (before within : X → X → Bool) (x : X) (xs : List X) → All (λ y. before x y ≡ within x y) xs → insert_by before x xs ≡ insert_by within x xs
insert_by-same before within x [] same = refl
insert_by-same {X = X} before within x (y ∷ ys) same =
    ap (λ (c : Bool × List X). if c.0 then x ∷ y ∷ ys else y ∷ c.1)
    (λ j. (All-head (λ z. before x z ≡ within x z) y ys same j, insert_by-same before within x ys (All-tail (λ z. before x z ≡ within x z) y ys same) j))

-- an insert in front of all
pub insert_by-front : {X : Type 0} (before : X → X → Bool) (x : X) (xs : List X) → All (λ y. before x y ≡ true) xs → insert_by before x xs ≡ x ∷ xs
insert_by-front before x [] all = refl
insert_by-front before x (y ∷ ys) all = rw (All-head (λ z. before x z ≡ true) y ys all)

-- an insert into two lists, the items of the second of which come after it
pub insert_by-within : {X : Type 0} (before : X → X → Bool) (x : X) (xs ys : List X) → All (λ y. before x y ≡ true) ys → insert_by before x (xs ++ ys) ≡ insert_by before x xs ++ ys
insert_by-within before x [] ys after = insert_by-front before x ys after
insert_by-within before x (z ∷ zs) ys after = insert_into before x z zs ys (before x z) (insert_by-within before x zs ys after)
  where
    insert_into : {W : Type 0} (before : W → W → Bool) (x z : W) (zs ys : List W) (b : Bool) → insert_by before x (zs ++ ys) ≡ insert_by before x zs ++ ys
        → (if b then x ∷ z ∷ (zs ++ ys) else z ∷ insert_by before x (zs ++ ys)) ≡ (if b then x ∷ z ∷ zs else z ∷ insert_by before x zs) ++ ys
    insert_into before x z zs ys true e = refl
    insert_into before x z zs ys false e = ap (λ ws. z ∷ ws) e

-- an insert into two lists, before none of the first of which it comes
pub insert_by-behind : {X : Type 0} (before : X → X → Bool) (x : X) (xs ys : List X) → All (λ y. before x y ≡ false) xs → insert_by before x (xs ++ ys) ≡ xs ++ insert_by before x ys
insert_by-behind before x [] ys none = refl
insert_by-behind before x (z ∷ zs) ys none = rw (All-head (λ y. before x y ≡ false) z zs none) (ap (λ ws. z ∷ ws) (insert_by-behind before x zs ys (All-tail (λ y. before x y ≡ false) z zs none)))

-- an insert, and then a filter, in a list that is in order
pub insert_by-filter : {X : Type 0} (keep : X → Bool) (R : X → X → Type 0) (before : X → X → Bool) (x : X) (xs : List X)
    → ((y z : X) → before x y ≡ true → R y z → before x z ≡ true)
    → AllPairs R xs
    → filter keep (insert_by before x xs) ≡ (if keep x then insert_by before x (filter keep xs) else filter keep xs)
insert_by-filter keep R before x [] past pairs = refl
insert_by-filter keep R before x (y ∷ ys) past pairs =
    elim (before x y) as (λ b. before x y ≡ b → filter keep (if b then x ∷ y ∷ ys else y ∷ insert_by before x ys)
    ≡ (if keep x then insert_by before x (filter keep (y ∷ ys)) else filter keep (y ∷ ys))) [
      | true ↦ λ e. ap (λ zs. if keep x then zs else filter keep (y ∷ ys)) (sym (insert_by-front before x (filter keep (y ∷ ys))
          (All-filter keep (λ z. before x z ≡ true) (y ∷ ys)
          (All-cons (λ z. before x z ≡ true) y ys e
          (All-weaker (R y) (λ z. before x z ≡ true) (λ z r. past y z e r) ys (AllPairs-head R y ys pairs))))))
      | false ↦ λ e. behind e (insert_by-filter keep R before x ys past (AllPairs-tail R y ys pairs))
    ] refl
  where
    behind : before x y ≡ false → filter keep (insert_by before x ys) ≡ (if keep x then insert_by before x (filter keep ys) else filter keep ys)
        → filter keep (y ∷ insert_by before x ys) ≡ (if keep x then insert_by before x (filter keep (y ∷ ys)) else filter keep (y ∷ ys))
    behind e same =
        elim (keep y) as (λ k. (if k then y ∷ filter keep (insert_by before x ys) else filter keep (insert_by before x ys))
        ≡ (if keep x then insert_by before x (if k then y ∷ filter keep ys else filter keep ys) else (if k then y ∷ filter keep ys else filter keep ys))) [
          | true ↦ ap (λ zs. y ∷ zs) same ∙ kept (keep x) e
          | false ↦ same
        ]
      where
        kept : (k : Bool) → before x y ≡ false → (y ∷ (if k then insert_by before x (filter keep ys) else filter keep ys))
            ≡ (if k then (if before x y then x ∷ y ∷ filter keep ys else y ∷ insert_by before x (filter keep ys)) else y ∷ filter keep ys)
        kept true f = rw f
        kept false f = refl

-- what is left by a filter passes its test
kept_by_test : {X : Type 0} (keep : X → Bool) (x : X) (xs : List X) (k : Bool) → keep x ≡ k → All (λ y. keep y ≡ true) (filter keep xs) → All (λ y. keep y ≡ true) (if k then x ∷ filter keep xs else filter keep xs)
kept_by_test keep x xs true is all = All-cons (λ y. keep y ≡ true) x (filter keep xs) is all
kept_by_test keep x xs false is all = all

pub All-kept : {X : Type 0} (keep : X → Bool) (xs : List X) → All (λ y. keep y ≡ true) (filter keep xs)
All-kept keep [] = All-nil (λ y. keep y ≡ true)
All-kept keep (x ∷ xs) = kept_by_test keep x xs (keep x) refl (All-kept keep xs)
