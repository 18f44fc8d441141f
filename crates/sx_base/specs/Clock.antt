-- Moments, in ticks of 100 ns since 1970-01-01T00:00:00Z, and what clocks and random sources give one after another.
use Rattle.std.specs.Prelude.{ℕ, List, [], ◌∷◌, ◌≡◌}

-- the greatest moment that a clock tells
abbrev pub greatest_moment : ℕ
greatest_moment = 2500000000000000000

-- these moments or words were given one step after another, from one value of the clock or random source to another
abbrev pub StepsThrough : {C : Type 0} → (C → ℕ → C → Type 0) → C → List ℕ → C → Type 0
StepsThrough step old [] new = old ≡ new
StepsThrough {C} step old (value ∷ values) new = (mid : C) × step old value mid × StepsThrough step mid values new
