-- Lists that are kept in an order, which is given as a test: whether one item comes before another.
use Rattle.std.specs.Prelude.{◌≡◌, Bool, true, false, if◌then◌else◌, List, [], ◌∷◌, All, Contains}

-- the list with an item put in front of the first that it comes before
abbrev pub insert_by : {X : Type 0} → (X → X → Bool) → X → List X → List X
insert_by before x [] = x ∷ []
insert_by before x (y ∷ ys) = if before x y then x ∷ y ∷ ys else y ∷ insert_by before x ys

-- the list without the first item that passes a test
abbrev pub remove_first : {X : Type 0} → (X → Bool) → List X → List X
remove_first test [] = []
remove_first test (x ∷ xs) = if test x then xs else x ∷ remove_first test xs

-- an item of the list passes the test, and none that passes comes before it
pub record IsLeast {X : Type 0} (before : X → X → Bool) (test : X → Bool) (xs : List X) (x : X) : Type 0 where
  pub listed : Contains xs x
  pub passes : test x ≡ true
  pub least : All (λ y. test y ≡ true → before y x ≡ false) xs
