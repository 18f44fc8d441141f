-- The places of a caller's entries in a list.
use Rattle.std.specs.Prelude.{ℕ, ◌+◌, ◌==◌, ltb, if◌then◌else◌, List, [], ◌∷◌, ◌++◌, length, Option, Some, None}

-- the places of caller n's entries, where the first entry has place k
abbrev pub places_from : {E : Type 0} → (E → ℕ) → ℕ → ℕ → List E → List ℕ
places_from who n k [] = []
places_from who n k (e ∷ es) = (if n == who e then k ∷ [] else []) ++ places_from who n (k + 1) es

-- the places of caller n's entries, counted from 1
abbrev pub places : {E : Type 0} → (E → ℕ) → ℕ → List E → List ℕ
places who n log = places_from who n 1 log

-- how often the number n stands among pairs of a number and its places
abbrev pub times : ℕ → List (ℕ × List ℕ) → ℕ
times n [] = 0
times n (p ∷ ps) = (if n == p.0 then 1 else 0) + times n ps

-- 1 for a number below the count, 0 for any other
abbrev pub once_below : ℕ → ℕ → ℕ
once_below n count = if ltb n count then 1 else 0

-- a seat's places after its turn: where the list is longer than the one with which the turn began, its last place
-- joins them
abbrev pub places_grown : {E : Type 0} → Option (List E) → List ℕ → List E → List ℕ
places_grown None mine log = mine
places_grown (Some began) mine log = if length log == length began then mine else mine ++ length log ∷ []

-- the longer of two lists
abbrev pub longer : {E : Type 0} → List E → List E → List E
longer a b = if ltb (length a) (length b) then b else a
