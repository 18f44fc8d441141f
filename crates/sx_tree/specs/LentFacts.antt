-- What a loan of the facts in a slot leaves of the slot.
use Rattle.std.specs.Borrow.{Lends, MutBor, Fml}
use Rattle.sx_tree.specs.declared.node.Facts.{Facts}
use Rattle.sx_tree.specs.contracts.node.Facts as facts
use Rattle.sx_tree.specs.contracts.slot.NodeSlot as slot
use Rattle.sx_tree.specs.Tree.{Slot, with_facts}

-- whatever is written to the facts that are lent stands in the slot
abbrev pub LendsFactsOf : MutBor Slot → MutBor Facts → Fml
LendsFactsOf s r = Lends slot.the_row facts.the_row s r (λ w. with_facts w s.now)
