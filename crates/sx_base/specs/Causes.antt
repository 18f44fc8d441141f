-- When a fault may be answered: only where a count of faults rose.
use Rattle.std.specs.Prelude.{ℕ, ◌≡◌, ◌+◌, ◌-◌, ◌^◌, ◌<◌, ◌≤◌, min, Result, OnOk, OnErr}

-- the count rose, or stands at the end of its type
abbrev pub Rose : ℕ → ℕ → Type 0
Rose before now = min (before + 1) (2 ^ 64 - 1) ≤ now

-- the count rose where the answer is a failure, and is as it was where it isn't
pub record HasCause {T E : Type 0} (before now : ℕ) (result : Result T E) : Type 0 where
  pub later : before ≤ now
  pub failed : OnErr result (Rose before now)
  pub kept : OnOk result (now ≡ before)

-- the count rose where these other faults were counted, and stands as before where none was
pub record TakesOver (faults before now : ℕ) : Type 0 where
  pub later : before ≤ now
  pub rose : 0 < faults → Rose before now
  pub stays : faults ≡ 0 → now ≡ before
