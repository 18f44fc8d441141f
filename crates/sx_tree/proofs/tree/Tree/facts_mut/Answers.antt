use Rattle.std.proofs.Common.{◌≡◌, ◌∙◌, ap, refl, sym, Some}
use Rattle.sx_base.specs.Entries.{value_at}
use Rattle.sx_tree.specs.Tree.{slots_use, with_facts}
use Rattle.sx_tree.proofs.Uses.{use_set}
use Rattle.sx_tree.proofs.tree.Tree.facts_mut.Goals as goal

pub invariant_of-self-lent : goal.invariant_of-self-lent
invariant_of-self-lent c = λ w.
    let es = c.self.inside.nodes.entries in
    let slot = c.in_ok-slot.slot.now in
    let found : value_at es c.args.id ≡ Some slot = sym (rw c.in_ok-slot.was at c.get_mut.ensures.value) in
    c.self.invariant ∙ sym (ap slots_use (c.get_mut.follows.holds (with_facts w slot)).0 ∙ use_set c.args.id es slot (with_facts w slot) found refl)
