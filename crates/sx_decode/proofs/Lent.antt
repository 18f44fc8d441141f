-- Tests of lent texts.
use Rattle.std.proofs.Common.{◌≡◌, ℕ, Bool, ◌&&◌, ◌||◌, List, [], ◌∷◌, map, Bor, refl, ap}
use Rattle.std.specs.List.{list_all, list_any}

-- one of the lent texts passes where one of the texts does
pub any_lent : (p : List ℕ → Bool) (texts : List (Bor (List ℕ))) → list_any (λ (t : Bor (List ℕ)). p t.now) texts ≡ list_any p (map (λ t. t.now) texts)
any_lent p [] = refl
any_lent p (t ∷ ts) = ap (λ b. p t.now || b) (any_lent p ts)

-- all lent texts pass where all of the texts do
pub all_lent : (p : List ℕ → Bool) (texts : List (Bor (List ℕ))) → list_all (λ (t : Bor (List ℕ)). p t.now) texts ≡ list_all p (map (λ t. t.now) texts)
all_lent p [] = refl
all_lent p (t ∷ ts) = ap (λ b. p t.now && b) (all_lent p ts)
