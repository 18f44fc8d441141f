-- Maps from numbers as the lists of their entries, and lists with one item changed.
use Rattle.std.specs.Prelude.{ℕ, Bool, cond, List, [], ◌∷◌, Option, Some, None, option_map}
use Rattle.std.specs.Ordering.{nat_cmp}
use Rattle.std.specs.BTreeMap.{is_at}
use Rattle.std.specs.Map.{lookup, set_value}

-- the value under a key
abbrev pub value_at : {X : Type 0} → List (ℕ × X) → ℕ → Option X
value_at entries key = lookup (is_at (nat_cmp key)) entries

-- the entries with another value under a key that is there
abbrev pub with_value : {X : Type 0} → ℕ → List (ℕ × X) → Option X → List (ℕ × X)
with_value key entries None = entries
with_value key entries (Some x) = set_value (is_at (nat_cmp key)) entries x

-- the entries with the value under a key changed, where it is there
abbrev pub change_at : {X : Type 0} → ℕ → (X → X) → List (ℕ × X) → List (ℕ × X)
change_at key f entries = with_value key entries (option_map f (value_at entries key))

-- the list with its first item that passes the test changed
abbrev pub change : {X : Type 0} → (X → Bool) → (X → X) → List X → List X
change test f [] = []
change test f (x ∷ xs) = cond (test x) (f x ∷ xs) (x ∷ change test f xs)
