-- One moment after another.
use Rattle.std.proofs.Common.{ℕ, List, [], ◌∷◌, ◌++◌, sym, subst}
use Rattle.sx_base.specs.Clock.{StepsThrough}

-- the moments of one run, and then those of the next
pub steps_append : {C : Type 0} (ticks : C → ℕ → C → Type 0) (a b c : C) (xs ys : List ℕ) → StepsThrough ticks a xs b → StepsThrough ticks b ys c → StepsThrough ticks a (xs ++ ys) c
steps_append {C} ticks a b c [] ys h k = subst (λ (x : C). StepsThrough ticks x ys c) (sym h) k
steps_append ticks a b c (x ∷ xs) ys h k = (h.0, h.1, steps_append ticks h.0 b c xs ys h.2 k)
