-- The limits of an answer's numbers.
use Rattle.std.specs.Prelude.{ℕ, ◌≤◌}

-- a number of 64 bits
abbrev pub IsNumber : ℕ → Type 0
IsNumber n = n ≤ 18446744073709551615

-- a number of 32 bits
abbrev pub IsCount : ℕ → Type 0
IsCount n = n ≤ 4294967295

-- the index of a handle, from 1
abbrev pub IsIndex : ℕ → Type 0
IsIndex n = (1 ≤ n) × (n ≤ 4294967295)
