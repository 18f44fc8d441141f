-- What a call on one file's part of a list is on the list of all: the laws by which one list of all opens, and one of all locks,
-- stands for the lists of the files. The part is the items that `keep`, each seen through `view`.
use Rattle.std.proofs.Common.{◌≡◌, Bool, true, false, not, ◌&&◌, ◌||◌, if◌then◌else◌, List, [], ◌∷◌, Some, AllPairs, filter, find, length, map, option_map, refl, ap, sym, ◌∙◌}
use Rattle.std.specs.List.{list_any}
use Rattle.std.proofs.lemmas.List.{length-map}
use Rattle.std.proofs.lemmas.List.Elements.{All-weaker}
use Rattle.sx_guard.specs.Ordered.{insert_by, remove_first}
use Rattle.sx_guard.specs.Parts.{part_of}
use Rattle.sx_guard.proofs.Views.{All-kept, insert_by-filter, insert_by-map, insert_by-same}

module _ {X Y : Type 0} (keep : X → Bool) (view : X → Y) where
  -- the first of the part that passes
  find_by : (test : Y → Bool) (x : X) (k b : Bool) (xs : List X) → test (view x) ≡ b
      → find test (part_of keep view xs) ≡ option_map view (find (λ y. keep y && test (view y)) xs)
      → find test (map view (if k then x ∷ filter keep xs else filter keep xs)) ≡ option_map view (if k && test (view x) then Some x else find (λ y. keep y && test (view y)) xs)
  find_by test x true true xs is e = rw is refl
  find_by test x true false xs is e = rw is e
  find_by test x false b xs is e = e

  pub part_find : (test : Y → Bool) (xs : List X) → find test (part_of keep view xs) ≡ option_map view (find (λ x. keep x && test (view x)) xs)
  part_find test [] = refl
  part_find test (x ∷ xs) = find_by test x (keep x) (test (view x)) xs refl (part_find test xs)

  -- whether one of the part passes
  any_by : (test : Y → Bool) (x : X) (k : Bool) (xs : List X) → list_any test (part_of keep view xs) ≡ list_any (λ y. keep y && test (view y)) xs
      → list_any test (map view (if k then x ∷ filter keep xs else filter keep xs)) ≡ (k && test (view x) || list_any (λ y. keep y && test (view y)) xs)
  any_by test x true xs e = ap (λ b. test (view x) || b) e
  any_by test x false xs e = e

  pub part_any : (test : Y → Bool) (xs : List X) → list_any test (part_of keep view xs) ≡ list_any (λ x. keep x && test (view x)) xs
  part_any test [] = refl
  part_any test (x ∷ xs) = any_by test x (keep x) xs (part_any test xs)

  -- how many there are in the part
  pub part_count : (xs : List X) → length (part_of keep view xs) ≡ length (filter keep xs)
  part_count xs = length-map (filter keep xs) view

  -- an item of the part put in its place among all stands in its place in the part
  pub part_insert : (R : X → X → Type 0) (before : X → X → Bool) (within : Y → Y → Bool) (x : X) (xs : List X)
      → ((y z : X) → before x y ≡ true → R y z → before x z ≡ true)
      → AllPairs R xs
      → keep x ≡ true
      → ((y : X) → keep y ≡ true → before x y ≡ within (view x) (view y))
      → part_of keep view (insert_by before x xs) ≡ insert_by within (view x) (part_of keep view xs)
  part_insert R before within x xs past pairs own agree =
      ap (map view) (insert_by-filter keep R before x xs past pairs ∙ ap (λ k. if k then insert_by before x (filter keep xs) else filter keep xs) own
      ∙ insert_by-same before (λ a b. within (view a) (view b)) x (filter keep xs)
      (All-weaker (λ y. keep y ≡ true) (λ y. before x y ≡ within (view x) (view y)) (λ y k. agree y k) (filter keep xs) (All-kept keep xs)))
      ∙ sym (insert_by-map view within x (filter keep xs))

  -- an item of another part put in its place among all leaves the part as it is
  other_insert_by : (before : X → X → Bool) (x y : X) (b k : Bool) (ys : List X) → keep x ≡ false
      → filter keep (insert_by before x ys) ≡ filter keep ys
      → filter keep (if b then x ∷ y ∷ ys else y ∷ insert_by before x ys) ≡ filter keep (y ∷ ys)
  other_insert_by before x y true k ys not_own e = rw not_own refl
  other_insert_by before x y false k ys not_own e = ap (λ zs. if keep y then y ∷ zs else zs) e

  other_insert : (before : X → X → Bool) (x : X) (xs : List X) → keep x ≡ false → filter keep (insert_by before x xs) ≡ filter keep xs
  other_insert before x [] not_own = rw not_own refl
  other_insert before x (y ∷ ys) not_own = other_insert_by before x y (before x y) (keep y) ys not_own (other_insert before x ys not_own)

  pub part_insert_other : (before : X → X → Bool) (x : X) (xs : List X) → keep x ≡ false → part_of keep view (insert_by before x xs) ≡ part_of keep view xs
  part_insert_other before x xs not_own = ap (map view) (other_insert before x xs not_own)

  -- the first of the part that passes, removed
  remove_by : (test : Y → Bool) (x : X) (k b : Bool) (xs : List X) → keep x ≡ k → test (view x) ≡ b
      → part_of keep view (remove_first (λ y. keep y && test (view y)) xs) ≡ remove_first test (part_of keep view xs)
      → part_of keep view (if k && b then xs else x ∷ remove_first (λ y. keep y && test (view y)) xs) ≡ remove_first test (map view (if k then x ∷ filter keep xs else filter keep xs))
  remove_by test x true true xs own is e = rw is refl
  remove_by test x true false xs own is e = rw (own, is) (ap (λ zs. view x ∷ zs) e)
  remove_by test x false b xs own is e = rw own e

  pub part_remove : (test : Y → Bool) (xs : List X) → part_of keep view (remove_first (λ x. keep x && test (view x)) xs) ≡ remove_first test (part_of keep view xs)
  part_remove test [] = refl
  part_remove test (x ∷ xs) = remove_by test x (keep x) (test (view x)) xs refl refl (part_remove test xs)

  -- those of the part that pass, removed
  drop_by : (test : Y → Bool) (x : X) (k b : Bool) (xs : List X) → keep x ≡ k → test (view x) ≡ b
      → part_of keep view (filter (λ y. not (keep y && test (view y))) xs) ≡ filter (λ y. not (test y)) (part_of keep view xs)
      → part_of keep view (if not (k && b) then x ∷ filter (λ y. not (keep y && test (view y))) xs else filter (λ y. not (keep y && test (view y))) xs)
      ≡ filter (λ y. not (test y)) (map view (if k then x ∷ filter keep xs else filter keep xs))
  drop_by test x true true xs own is e = rw is e
  drop_by test x true false xs own is e = rw (own, is) (ap (λ zs. view x ∷ zs) e)
  drop_by test x false b xs own is e = rw own e

  pub part_drop : (test : Y → Bool) (xs : List X) → part_of keep view (filter (λ x. not (keep x && test (view x))) xs) ≡ filter (λ y. not (test y)) (part_of keep view xs)
  part_drop test [] = refl
  part_drop test (x ∷ xs) = drop_by test x (keep x) (test (view x)) xs refl refl (part_drop test xs)

  -- items of other parts removed leave the part as it is
  other_drop_by : (test : X → Bool) (x : X) (k b : Bool) (xs : List X) → keep x ≡ k → test x ≡ b → (test x ≡ true → keep x ≡ false)
      → filter keep (filter (λ y. not (test y)) xs) ≡ filter keep xs
      → filter keep (if not b then x ∷ filter (λ y. not (test y)) xs else filter (λ y. not (test y)) xs) ≡ (if k then x ∷ filter keep xs else filter keep xs)
  other_drop_by test x true true xs own is others e = absurd (cc (own, others is))
  other_drop_by test x false true xs own is others e = e
  other_drop_by test x true false xs own is others e = rw own (ap (λ zs. x ∷ zs) e)
  other_drop_by test x false false xs own is others e = rw own e

  other_drop : (test : X → Bool) (xs : List X) → ((x : X) → test x ≡ true → keep x ≡ false) → filter keep (filter (λ x. not (test x)) xs) ≡ filter keep xs
  other_drop test [] others = refl
  other_drop test (x ∷ xs) others = other_drop_by test x (keep x) (test x) xs refl refl (others x) (other_drop test xs others)

  pub part_drop_other : (test : X → Bool) (xs : List X) → ((x : X) → test x ≡ true → keep x ≡ false) → part_of keep view (filter (λ x. not (test x)) xs) ≡ part_of keep view xs
  part_drop_other test xs others = ap (map view) (other_drop test xs others)
