-- Filters of a list with one more item in it.
use Rattle.std.proofs.Common.{◌≡◌, Bool, true, false, cond, ◌||◌, List, [], ◌∷◌, ◌++◌, map, refl, ap}
use Rattle.std.specs.Prelude.{not, ◌&&◌}
use Rattle.std.specs.List.{filter, list_any}

pub filter_without : {X : Type 0} (p : X → Bool) (a : X) (xs ys : List X) → p a ≡ false → filter p (xs ++ a ∷ ys) ≡ filter p (xs ++ ys)
filter_without p a [] ys e = rw e refl
filter_without p a (x ∷ xs) ys e = ap (λ zs. cond (p x) (x ∷ zs) zs) (filter_without p a xs ys e)

pub any_without : {X : Type 0} (p : X → Bool) (a : X) (xs ys : List X) → p a ≡ false → list_any p (xs ++ a ∷ ys) ≡ list_any p (xs ++ ys)
any_without p a [] ys e = rw e refl
any_without p a (x ∷ xs) ys e = ap (λ b. p x || b) (any_without p a xs ys e)

dropped : {X : Type 0} (b : Bool) (x : X) (zs : List X) → cond b (x ∷ zs) zs ≡ [] → (b ≡ false) × (zs ≡ [])
dropped true x zs e = cc
dropped false x zs e = (refl, e)

pub filter_alone : {X : Type 0} (p : X → Bool) (a : X) (xs ys : List X) → p a ≡ true → filter p (xs ++ ys) ≡ [] → filter p (xs ++ a ∷ ys) ≡ a ∷ []
filter_alone p a [] ys e none = rw (e, none) refl
filter_alone p a (x ∷ xs) ys e none =
    let d = dropped (p x) x (filter p (xs ++ ys)) none in
    rw (d.0) (filter_alone p a xs ys e d.1)

pub no_items : {X Y : Type 0} (f : X → Y) (xs : List X) → map f xs ≡ [] → xs ≡ []
no_items f [] e = refl
no_items f (x ∷ xs) e = cc

pub and_parts : (a b : Bool) → (a && b) ≡ true → (a ≡ true) × (b ≡ true)
and_parts true b e = (refl, e)
and_parts false b e = cc

pub not_true : (b : Bool) → not b ≡ true → b ≡ false
not_true true e = cc
not_true false e = refl
