-- Names of numbers: the one that stands at the front, of those numbers that are allowed.
use Rattle.std.specs.Prelude.{◌≡◌, ℕ, zero, suc, ◌+◌, ◌≤◌, ◌<◌, Bool, true, false, min, List, ◌++◌, length, Result}
use Rattle.std.specs.Prelude.{Ok, Err}
use Rattle.sx_text.specs.Texts.{Reader}
use Rattle.sx_text.specs.Readers.{literal_at, after}

-- one of count numbers from the first on that is allowed
abbrev pub IsNamed : (ℕ → Bool) → ℕ → ℕ → ℕ → Type 0
IsNamed is_allowed count first n = (first ≤ n) × (n < first + count) × (is_allowed n ≡ true)

-- of the numbers from low on and below high no name stands where another one does
abbrev pub AreApart : (ℕ → List ℕ) → ℕ → ℕ → Type 0
AreApart name low high = (i j : ℕ) (x y : List ℕ) → low ≤ i → i < high → low ≤ j → j < high → name i ++ x ≡ name j ++ y
    → i ≡ j

-- what trying a name gives, by whether it is allowed, where others leave so many: the bytes behind it, or how many are
-- left now
abbrev pub tried_at : Bool → Result (List ℕ) ℕ → ℕ → Result (List ℕ) ℕ
tried_at true (Ok rest) left = Ok rest
tried_at true (Err less) left = Err (min left less)
tried_at false read left = Err left

-- one of two values, by whether a name was read
abbrev pub by_name : {X : Type 0} → Result (List ℕ) ℕ → (List ℕ → X) → (ℕ → X) → X
by_name (Ok rest) found other = found rest
by_name (Err left) found other = other left

-- the number whose name stands at the front, or the least that is left behind what begins a name; others leave so many
unfoldable pub named_from : (ℕ → List ℕ) → (ℕ → Bool) → ℕ → ℕ → ℕ → Reader ℕ ℕ
named_from name is_allowed left zero first bytes = Err left
named_from name is_allowed left (suc count) first bytes = by_name
    (tried_at (is_allowed first) (literal_at (name first) bytes) left) (λ rest. Ok (first, rest))
    (λ less. named_from name is_allowed less count (suc first) bytes)

-- the number whose name stands at the front
unfoldable pub named_at : (ℕ → List ℕ) → (ℕ → Bool) → ℕ → ℕ → Reader ℕ ℕ
named_at name is_allowed count first bytes = named_from name is_allowed (length bytes) count first bytes

-- a literal, and the name behind it
unfoldable pub named_after : List ℕ → (ℕ → List ℕ) → (ℕ → Bool) → ℕ → ℕ → Reader ℕ ℕ
named_after literal name is_allowed count first bytes = after literal (named_at name is_allowed count first) bytes
