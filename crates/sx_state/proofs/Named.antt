-- Shares in order of name.
use Rattle.std.proofs.Common.{◌≡◌, ℕ, List, [], ◌∷◌, map, refl, ap}
use Rattle.sx_guard.specs.Ordered.{insert_by}
use Rattle.sx_tree.specs.declared.share.Share.{Share}
use Rattle.sx_spec.specs.Pages.{by_name, name_before}
use Rattle.sx_state.specs.Named.{in_order}

-- the numbers don't matter
pub by_name-is : (xs : List (ℕ × Share)) → by_name xs ≡ in_order (map (λ x. x.1) xs)
by_name-is [] = refl
by_name-is (x ∷ xs) = ap (insert_by name_before x.1) (by_name-is xs)
