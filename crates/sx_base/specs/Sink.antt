-- What a sink tells of the bytes that are written to it.
use Rattle.std.specs.Prelude.{ℕ, List, ◌++◌, Result, OnOk, OnErr}
use mathlib.Core.List.{IsPrefix}
use Rattle.sx_base.specs.Causes.{HasCause}

-- these bytes were written behind what was written before
pub record Writes {K : Type 0} (wrote : K → List ℕ → Type 0) (old new : K) (bytes : List ℕ) : Type 0 where
  pub behind : (before : List ℕ) → wrote old before → wrote new (before ++ bytes)

-- a prefix of these bytes was written behind what was written before
pub record WritesPrefix {K : Type 0} (wrote : K → List ℕ → Type 0) (old new : K) (bytes : List ℕ) : Type 0 where
  pub behind : (before : List ℕ) → wrote old before → (front : List ℕ) × IsPrefix front bytes
      × wrote new (before ++ front)

-- the text was written by puts alone, or a prefix of it where one failed
pub record Prints {K T E : Type 0} (wrote : K → List ℕ → Type 0) (count : K → ℕ) (puts : K → K → Type 0) (old new : K)
    (text : List ℕ) (result : Result T E) : Type 0 where
  pub ok : OnOk result (Writes wrote old new text)
  pub err : OnErr result (WritesPrefix wrote old new text)
  pub cause : HasCause (count old) (count new) result
  pub step : puts old new
