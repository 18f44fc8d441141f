-- The limits of moments, in ticks of 100 ns since 1970-01-01T00:00:00Z.
use Rattle.std.specs.Prelude.{◌≡◌, ◌≤◌, ◌*◌, ◌/◌, ◌%◌, ℕ}
use Rattle.sx_base.specs.Clock.{greatest_moment}
use Rattle.sx_base.specs.Moment.{greatest_written}
use Rattle.sx_moment.specs.declared.second.TheConstants.{TICKS_OF_A_SECOND}

-- a moment that has a text
abbrev pub IsShownMoment : ℕ → Type 0
IsShownMoment ticks = ticks ≤ greatest_written

-- a moment that a clock tells
abbrev pub IsClockMoment : ℕ → Type 0
IsClockMoment ticks = ticks ≤ greatest_moment

-- a moment of whole seconds that has a text
pub record IsSecond (ticks : ℕ) : Type 0 where
  pub limit : IsShownMoment ticks
  pub whole : ticks % TICKS_OF_A_SECOND ≡ 0

-- the second in which a moment lies
abbrev pub second_of : ℕ → ℕ
second_of ticks = ticks / TICKS_OF_A_SECOND * TICKS_OF_A_SECOND
