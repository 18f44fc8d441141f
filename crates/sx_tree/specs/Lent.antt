-- What a loan of a node's facts leaves of the tree.
use Rattle.std.specs.Prelude.{◌≡◌, ℕ, Option, OnSome}
use Rattle.std.specs.Borrow.{LendsSo, MutBor, Fml}
use Rattle.sx_tree.specs.declared.node.Facts.{Facts}
use Rattle.sx_tree.specs.contracts.node.Facts as facts
use Rattle.sx_tree.specs.contracts.tree.Tree as tree
use Rattle.sx_tree.specs.Tree.{Nodes, set_facts}

-- whatever is written to the facts that are lent stands in the tree; where nothing is lent the tree stays as it is
abbrev pub LendsFacts : MutBor Nodes → ℕ → Option (MutBor Facts) → Fml
LendsFacts s id r =
    LendsSo tree.the_row facts.the_row s r (λ n w. OnSome r (n ≡ set_facts id w s.now)) (λ n. n ≡ s.now)
