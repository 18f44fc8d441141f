-- Shares in order of name.
use Rattle.std.specs.Prelude.{Bool, List, [], ◌∷◌}
use Rattle.sx_guard.specs.Ordered.{insert_by}
use Rattle.sx_tree.specs.declared.share.Share.{Share}
use Rattle.sx_spec.specs.Pages.{name_before}

-- items put into an order, the last of them first
abbrev pub in_order_by : {X : Type 0} → (X → X → Bool) → List X → List X
in_order_by before [] = []
in_order_by before (x ∷ xs) = insert_by before x (in_order_by before xs)

-- shares put into the order of their names, the last of them first
abbrev pub in_order : List Share → List Share
in_order xs = in_order_by name_before xs
