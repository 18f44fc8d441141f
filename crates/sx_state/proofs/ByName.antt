-- A stable sort and inserts into place come to the same list.
use Rattle.std.proofs.Common.{◌≡◌, ◌∙◌, sym, ap, refl, Bool, true, false, not, ◌&&◌, if◌then◌else◌, List, [], ◌∷◌, ◌++◌, reverse, map, filter, All, AllPairs, subst, arith, append-nil}
use Rattle.std.specs.Cmp.{IsStrictWeakOrder}
use Rattle.std.specs.List.Sorted.{IsSortedBy, IsStableBy, ties}
use Rattle.std.proofs.lemmas.List.{reverse-append, reverse-reverse}
use Rattle.std.proofs.lemmas.List.Elements.{All-cons, All-head, All-tail, All-weaker, filter-append}
use Rattle.std.proofs.lemmas.List.Sorted.{sorted_far}
use Rattle.sx_guard.specs.Ordered.{insert_by}
use Rattle.sx_guard.proofs.Pairs.{AllPairs-head, AllPairs-tail, AllPairs-nil, AllPairs-insert_by}
use Rattle.sx_guard.proofs.Views.{All-kept, insert_by-filter, insert_by-behind, insert_by-map}
use Rattle.sx_state.specs.Named.{in_order_by}

differ : true ≡ false → ⊥
differ e = cc

module _ {X : Type 0} (before : X → X → Bool) (o : IsStrictWeakOrder before) where
  -- no later item comes before an earlier one
  abbrev Behind : X → X → Type 0
  Behind a b = before b a ≡ false

  -- what ties with neither order
  tie_of : (a b : X) → before a b ≡ false → before b a ≡ false → ties before a b ≡ true
  tie_of a b e f = rw (e, f) refl

  tie_left : (a b : X) → ties before a b ≡ true → before a b ≡ false
  tie_left a b t = by_bits (before a b) (before b a) t
    where
      by_bits : (p q : Bool) → (not p && not q) ≡ true → p ≡ false
      by_bits true q e = cc
      by_bits false q e = refl

  tie_right : (a b : X) → ties before a b ≡ true → before b a ≡ false
  tie_right a b t = by_bits (before a b) (before b a) t
    where
      by_bits : (p q : Bool) → (not p && not q) ≡ true → q ≡ false
      by_bits true q e = cc
      by_bits false true e = cc
      by_bits false false e = refl

  -- no item comes before itself
  itself : (a : X) → before a a ≡ false
  itself a = by_bit (before a a) refl
    where
      by_bit : (b : Bool) → before a a ≡ b → before a a ≡ false
      by_bit true e = o.one_way a a e
      by_bit false e = e

  tie_itself : (a : X) → ties before a a ≡ true
  tie_itself a = tie_of a a (itself a) (itself a)

  -- what comes before an item comes before all that don't come before that one
  before_more : (x y z : X) → before x y ≡ true → Behind y z → before x z ≡ true
  before_more x y z e r = by_bit (before x z) refl
    where
      by_bit : (b : Bool) → before x z ≡ b → before x z ≡ true
      by_bit true f = f
      by_bit false f = absurd (differ (sym e ∙ o.chain x z y f r))

  -- the items of a list in order stand in order
  pub ordered : (xs : List X) → AllPairs Behind (in_order_by before xs)
  ordered [] = AllPairs-nil Behind
  ordered (x ∷ xs) =
      AllPairs-insert_by Behind before x (in_order_by before xs)
      (λ y e. o.one_way x y e)
      (λ y z e r. o.one_way x z (before_more x y z e r))
      (λ k d l e. e)
      (ordered xs)

  -- a sorted list stands in order
  pub pairs_from_sorted : (xs : List X) → IsSortedBy before xs → AllPairs Behind xs
  pairs_from_sorted xs up = λ i j d l m. sorted_far before o xs up i j d (omega (arith, l)) m

  -- an item put behind those with which it ties
  put_last : (t x : X) (xs : List X) → ties before t x ≡ true → All (λ y. ties before t y ≡ true) xs → insert_by before x xs ≡ xs ++ x ∷ []
  put_last t x xs e all =
      ap (insert_by before x) (sym (append-nil xs))
      ∙ insert_by-behind before x xs [] (All-weaker (λ y. ties before t y ≡ true) (λ y. before x y ≡ false) (λ y f. o.chain x t y (tie_right t x e) (tie_left t y f)) xs all)

  put_tied : (t x : X) (xs : List X) (b : Bool) → ties before t x ≡ b
      → (if b then insert_by before x (filter (ties before t) xs) else filter (ties before t) xs) ≡ filter (ties before t) xs ++ (if b then x ∷ [] else [])
  put_tied t x xs true e = put_last t x (filter (ties before t) xs) e (All-kept (ties before t) xs)
  put_tied t x xs false e = sym (append-nil (filter (ties before t) xs))

  -- in a list put in order those that tie stand last first
  ties_in_order : (t : X) (xs : List X) → filter (ties before t) (in_order_by before xs) ≡ filter (ties before t) (reverse xs)
  ties_in_order t [] = refl
  ties_in_order t (x ∷ xs) =
      insert_by-filter (ties before t) Behind before x (in_order_by before xs) (λ y z e r. before_more x y z e r) (ordered xs)
      ∙ put_tied t x (in_order_by before xs) (ties before t x) refl
      ∙ ap (λ (zs : List X). zs ++ filter (ties before t) (x ∷ [])) (ties_in_order t xs)
      ∙ sym (filter-append (ties before t) (reverse xs) (x ∷ []))
      ∙ ap (filter (ties before t)) (sym (reverse-append (x ∷ []) xs))

  no_ties : (t : X) (xs : List X) → All (λ y. ties before t y ≡ false) xs → filter (ties before t) xs ≡ []
  no_ties t [] h = refl
  no_ties t (x ∷ xs) h = rw (All-head (λ y. ties before t y ≡ false) x xs h) (no_ties t xs (All-tail (λ y. ties before t y ≡ false) x xs h))

  apart : (a y : X) → before a y ≡ true → ties before a y ≡ false
  apart a y e = rw e refl

  -- what comes before the first of a list in order ties with none of it
  untied : (a b : X) (vs : List X) → before a b ≡ true → AllPairs Behind (b ∷ vs) → filter (ties before a) (b ∷ vs) ≡ []
  untied a b vs e pairs =
      no_ties a (b ∷ vs)
      (All-cons (λ y. ties before a y ≡ false) b vs (apart a b e)
      (All-weaker (Behind b) (λ y. ties before a y ≡ false) (λ y r. apart a y (before_more a b y e r)) vs (AllPairs-head Behind b vs pairs)))

  first_tied : (t a : X) (us : List X) → ties before t a ≡ true → filter (ties before t) (a ∷ us) ≡ a ∷ filter (ties before t) us
  first_tied t a us e = rw e refl

  some : (a : X) (us : List X) → a ∷ us ≡ [] → ⊥
  some a us e = cc

  same_first : (a b : X) (us vs : List X) → a ∷ us ≡ b ∷ vs → a ≡ b
  same_first a b us vs e = cc

  -- two lists in order, of which those that tie with an item are the same, have one first item
  same_head : (a b : X) (us vs : List X) → AllPairs Behind (a ∷ us) → AllPairs Behind (b ∷ vs)
      → ((t : X) → filter (ties before t) (a ∷ us) ≡ filter (ties before t) (b ∷ vs))
      → (p q : Bool) → before a b ≡ p → before b a ≡ q → a ≡ b
  same_head a b us vs left right same true q e f = absurd (some a (filter (ties before a) us) (sym (first_tied a a us (tie_itself a)) ∙ same a ∙ untied a b vs e right))
  same_head a b us vs left right same false true e f = absurd (some b (filter (ties before b) vs) (sym (first_tied b b vs (tie_itself b)) ∙ sym (same b) ∙ untied b a us f left))
  same_head a b us vs left right same false false e f =
      same_first a b (filter (ties before a) us) (filter (ties before a) vs)
      (sym (first_tied a a us (tie_itself a)) ∙ same a ∙ first_tied a b vs (tie_of a b e f))

  rest_by : (t a : X) (us vs : List X) (b : Bool)
      → (if b then a ∷ filter (ties before t) us else filter (ties before t) us) ≡ (if b then a ∷ filter (ties before t) vs else filter (ties before t) vs)
      → filter (ties before t) us ≡ filter (ties before t) vs
  rest_by t a us vs true e = cc
  rest_by t a us vs false e = e

  -- and behind it the same again
  same_rest : (a b : X) (us vs : List X) → a ≡ b → ((t : X) → filter (ties before t) (a ∷ us) ≡ filter (ties before t) (b ∷ vs)) → (t : X) → filter (ties before t) us ≡ filter (ties before t) vs
  same_rest a b us vs e same t = rest_by t a us vs (ties before t a) (subst (λ c. filter (ties before t) (a ∷ us) ≡ filter (ties before t) (c ∷ vs)) (sym e) (same t))

  -- a list in order is told by what ties with each item
  one_order : (us vs : List X) → AllPairs Behind us → AllPairs Behind vs → ((t : X) → filter (ties before t) us ≡ filter (ties before t) vs) → us ≡ vs
  one_order [] [] left right same = refl
  one_order [] (b ∷ vs) left right same = absurd (some b (filter (ties before b) vs) (sym (first_tied b b vs (tie_itself b)) ∙ sym (same b)))
  one_order (a ∷ us) [] left right same = absurd (some a (filter (ties before a) us) (sym (first_tied a a us (tie_itself a)) ∙ same a))
  one_order (a ∷ us) (b ∷ vs) left right same =
      let e : a ≡ b = same_head a b us vs left right same (before a b) (before b a) refl refl in
      let rest : us ≡ vs = one_order us vs (AllPairs-tail Behind a us left) (AllPairs-tail Behind b vs right) (same_rest a b us vs e same) in
      λ i. e i ∷ rest i

  -- a stable sort of a list is its reverse in order
  pub sorted_is : (xs ys : List X) → IsSortedBy before ys → IsStableBy before xs ys → ys ≡ in_order_by before (reverse xs)
  sorted_is xs ys up stable =
      one_order ys (in_order_by before (reverse xs)) (pairs_from_sorted ys up) (ordered (reverse xs))
      (λ t. stable t ∙ ap (filter (ties before t)) (sym (reverse-reverse xs)) ∙ sym (ties_in_order t (reverse xs)))

-- a list put in order, seen through a function
pub in_order-map : {A X : Type 0} (f : A → X) (before : X → X → Bool) (xs : List A) → map f (in_order_by (λ a b. before (f a) (f b)) xs) ≡ in_order_by before (map f xs)
in_order-map f before [] = refl
in_order-map f before (x ∷ xs) = sym (insert_by-map f before x (in_order_by (λ a b. before (f a) (f b)) xs)) ∙ ap (insert_by before (f x)) (in_order-map f before xs)
