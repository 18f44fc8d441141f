-- The first item that passes a test, by its place.
use Rattle.std.proofs.Common.{ℕ, zero, suc, ◌<◌, ◌≤◌, ◌≡◌, Bool, true, false, cond, List, [], ◌∷◌, length, get_or, refl, ap, ◌∙◌, arith, position, Some, None, nat_lt, not}
use Rattle.std.specs.List.{find, slice_set, position_or_len}
use Rattle.std.proofs.lemmas.List.Quantifiers.{position-Some}
use Rattle.std.proofs.lemmas.List.Folds.{find_at}
use Rattle.std.proofs.lemmas.List.Sums.{prefix_len-le-length}
use Rattle.std.proofs.lemmas.Bool.{ltb-false}
use Rattle.std.proofs.lemmas.Option.{slice_get_past}
use Rattle.sx_base.specs.Entries.{change}

change_here : {X : Type 0} (p : X → Bool) (f : X → X) (xs : List X) (i : ℕ) (d : X) → i < length xs → p (get_or xs i d) ≡ true → ((k : ℕ) → k < i → p (get_or xs k d) ≡ false) → slice_set xs i (f (get_or xs i d)) ≡ change p f xs
change_here p f [] i d lt here before = absurd (omega arith)
change_here p f (x ∷ xs) zero d lt here before = rw here refl
change_here p f (x ∷ xs) (suc i) d lt here before =
    let fails : p x ≡ false = before 0 (omega arith) in
    rw fails (ap (λ ys. x ∷ ys) (change_here p f xs i d (omega arith) here (λ k less. before (suc k) (omega arith))))

find_here : {X : Type 0} (p : X → Bool) (xs : List X) (i : ℕ) (d : X) → i < length xs → p (get_or xs i d) ≡ true → ((k : ℕ) → k < i → p (get_or xs k d) ≡ false) → find p xs ≡ Some (get_or xs i d)
find_here p [] i d lt here before = absurd (omega arith)
find_here p (x ∷ xs) zero d lt here before = rw here refl
find_here p (x ∷ xs) (suc i) d lt here before =
    let fails : p x ≡ false = before 0 (omega arith) in
    rw fails (find_here p xs i d (omega arith) here (λ k less. before (suc k) (omega arith)))

-- writing the changed item at its place changes the list
pub change_position : {X : Type 0} (p : X → Bool) (f : X → X) (xs : List X) (i : ℕ) (d : X) → position p xs ≡ Some i → slice_set xs i (f (get_or xs i d)) ≡ change p f xs
change_position p f xs i d e = let at = position-Some p xs i d e in change_here p f xs i d at.0 at.1 at.2

-- the item at that place is the one that is found
pub find_position : {X : Type 0} (p : X → Bool) (xs : List X) (i : ℕ) (d : X) → position p xs ≡ Some i → find p xs ≡ Some (get_or xs i d)
find_position p xs i d e = let at = position-Some p xs i d e in find_here p xs i d at.0 at.1 at.2

none_cond : (b : Bool) (i : ℕ) → cond b (Some i) None ≡ None → b ≡ false
none_cond true i e = cc
none_cond false i e = refl

past : {X : Type 0} (p : X → Bool) (xs : List X) → position p xs ≡ None → length xs ≤ position_or_len p xs
past p xs e =
    let fails = none_cond (nat_lt (position_or_len p xs) (length xs)) (position_or_len p xs) e in
    omega (arith, ltb-false (position_or_len p xs) (length xs) fails)

-- no place, and nothing found
pub find_none : {X : Type 0} (p : X → Bool) (xs : List X) → position p xs ≡ None → find p xs ≡ None
find_none p xs e = find_at p xs ∙ slice_get_past xs (position_or_len p xs) (past p xs e)

-- no place: the length stands for it
pub position_or_len-none : {X : Type 0} (p : X → Bool) (xs : List X) → position p xs ≡ None → length xs ≡ position_or_len p xs
position_or_len-none p xs e = omega (arith, past p xs e, prefix_len-le-length (λ x. not (p x)) xs)
