-- A second list that stands beside a first in an order by file, so that the part of each file is the same in both.
use Rattle.std.proofs.Common.{◌≡◌, ◌∙◌, sym, ap, refl, ℕ, Bool, true, false, ◌&&◌, List, option_map, filter, find, length, AllPairs}
use Rattle.sx_guard.specs.Ordered.{insert_by}
use Rattle.sx_guard.specs.Parts.{part_of}
use Rattle.sx_guard.proofs.Parts.{part_find, part_count, part_insert, part_insert_other}

module _ {X E Y : Type 0} (on : ℕ → X → Bool) (view : X → Y) (at : ℕ → E → Bool) (look : E → Y) where
  -- the part of each file is the same in both lists
  abbrev pub IsBeside : List X → List E → Type 0
  IsBeside xs es = (id : ℕ) → part_of (at id) look es ≡ part_of (on id) view xs

  -- Laws on one item more, put into its place in both.
  module _ (R : X → X → Type 0) (S : E → E → Type 0) (before : X → X → Bool) (behind : E → E → Bool) (within : Y → Y → Bool) (x : X) (e : E)
      (same : look e ≡ view x)
      (of_one : (id : ℕ) → at id e ≡ on id x)
      (past : (y z : X) → before x y ≡ true → R y z → before x z ≡ true)
      (agree : (y : X) → before x y ≡ within (view x) (view y))
      (beyond : (y z : E) → behind e y ≡ true → S y z → behind e z ≡ true)
      (match : (id : ℕ) (y : E) → at id e ≡ true → at id y ≡ true → behind e y ≡ within (look e) (look y))
    where
      put_by : (id : ℕ) (b : Bool) (xs : List X) (es : List E) → on id x ≡ b → AllPairs R xs → AllPairs S es → IsBeside xs es
          → part_of (at id) look (insert_by behind e es) ≡ part_of (on id) view (insert_by before x xs)
      put_by id true xs es own pairs pairs' beside =
          part_insert (at id) look S behind within e es beyond pairs' (of_one id ∙ own) (λ y k. match id y (of_one id ∙ own) k)
          ∙ ap (λ (y : Y). insert_by within y (part_of (at id) look es)) same
          ∙ ap (insert_by within (view x)) (beside id)
          ∙ sym (part_insert (on id) view R before within x xs past pairs own (λ y k. agree y))
      put_by id false xs es own pairs pairs' beside =
          part_insert_other (at id) look behind e es (of_one id ∙ own) ∙ beside id ∙ sym (part_insert_other (on id) view before x xs own)

      pub beside_put : (xs : List X) (es : List E) → AllPairs R xs → AllPairs S es → IsBeside xs es → IsBeside (insert_by before x xs) (insert_by behind e es)
      beside_put xs es pairs pairs' beside = λ id. put_by id (on id x) xs es refl pairs pairs' beside

  -- what is found in a file's part of the second list is what is found among all of the first
  pub beside_find : (id : ℕ) (test : Y → Bool) (xs : List X) (es : List E) → IsBeside xs es
      → find test (part_of (at id) look es) ≡ option_map view (find (λ x. on id x && test (view x)) xs)
  beside_find id test xs es beside = ap (find test) (beside id) ∙ part_find (on id) view test xs

  pub beside_count : (id : ℕ) (xs : List X) (es : List E) → IsBeside xs es → length (filter (at id) es) ≡ length (filter (on id) xs)
  beside_count id xs es beside = sym (part_count (at id) look es) ∙ ap length (beside id) ∙ part_count (on id) view xs
