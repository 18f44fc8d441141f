-- Items that are each made into another, where all can be.
use Rattle.std.proofs.Common.{◌≡◌, ℕ, ◌+◌, ◌<◌, List, [], ◌∷◌, ◌++◌, Option, Some, None, refl, sym, ap, ◌∙◌, append_assoc}
use Rattle.std.proofs.Common.{length, drop, get_or, drop-cons, add-one, map, Bor}
use Rattle.sx_lines.specs.Reading.{when_some}
use Rattle.sx_lines.specs.Fields.{all_of}

-- the items behind those that are done
abbrev pub after_these : {B : Type 0} → List B → Option (List B) → Option (List B)
after_these done None = None
after_these done (Some ys) = Some (done ++ ys)

more_of : {B : Type 0} (done : List B) (y : B) (o : Option (List B))
    → after_these done (when_some o (λ ys. Some (y ∷ ys))) ≡ after_these (done ++ y ∷ []) o
more_of done y None = refl
more_of done y (Some ys) = ap Some (sym (append_assoc done (y ∷ []) ys))

all_more : {A B : Type 0} (f : A → Option B) (done : List B) (x : A) (xs : List A) (y : B)
    → f x ≡ Some y → after_these done (all_of f (x ∷ xs)) ≡ after_these (done ++ y ∷ []) (all_of f xs)
all_more f done x xs y e = rw e (more_of done y (all_of f xs))

all_stop : {A B : Type 0} (f : A → Option B) (done : List B) (x : A) (xs : List A)
    → f x ≡ None → after_these done (all_of f (x ∷ xs)) ≡ None
all_stop f done x xs e = rw e refl

drop_more : {A : Type 0} (xs : List A) (i : ℕ) (d : A) → i < length xs → drop i xs ≡ get_or xs i d ∷ drop (i + 1) xs
drop_more xs i d lt = rw (add-one i) (drop-cons xs i d lt)

-- a lent item where there is none
abbrev pub no_item : Bor (List ℕ)
no_item = record { ref_ptr = (0, 0); now = [] }

-- a turn of a loop over lent items
pub all_step : {B : Type 0} (f : List ℕ → Option B) (whole : Option (List B)) (done : List B) (i : ℕ) (xs : List (Bor (List ℕ))) (y : B)
    → i < length xs → whole ≡ after_these done (all_of f (map (λ s. s.now) (drop i xs))) → f (get_or xs i no_item).now ≡ Some y
    → whole ≡ after_these (done ++ y ∷ []) (all_of f (map (λ s. s.now) (drop (i + 1) xs)))
all_step f whole done i xs y lt inv e =
    inv ∙ ap (λ (ys : List (Bor (List ℕ))). after_these done (all_of f (map (λ s. s.now) ys))) (drop_more xs i no_item lt)
    ∙ all_more f done (get_or xs i no_item).now (map (λ (s : Bor (List ℕ)). s.now) (drop (i + 1) xs)) y e

-- one of the items can't be made
pub all_none : {B : Type 0} (f : List ℕ → Option B) (whole : Option (List B)) (done : List B) (i : ℕ) (xs : List (Bor (List ℕ)))
    → i < length xs → whole ≡ after_these done (all_of f (map (λ s. s.now) (drop i xs))) → f (get_or xs i no_item).now ≡ None
    → whole ≡ None
all_none f whole done i xs lt inv e =
    inv ∙ ap (λ (ys : List (Bor (List ℕ))). after_these done (all_of f (map (λ s. s.now) ys))) (drop_more xs i no_item lt)
    ∙ all_stop f done (get_or xs i no_item).now (map (λ (s : Bor (List ℕ)). s.now) (drop (i + 1) xs)) e
