use Rattle.std.proofs.Common.{◌≡◌, ◌∙◌, sym, ap, Some}
use Rattle.sx_tree.specs.declared.node.Facts.{Facts}
use Rattle.sx_tree.specs.Tree.{facts_at, set_facts}
use Rattle.sx_state.specs.Changed.{facts_after}
use Rattle.sx_state.proofs.Changes.{facts_changed}
use Rattle.sx_state.proofs.trees.facts_in_tree.Goals as goal

pub returns-in-Some : goal.returns-in-Some
returns-in-Some c =
    let at : facts_at c.args.tree.now c.args.id ≡ Some c.in-Some.facts.now = sym c.in-Some.ensures.value in
    (rw c.in-Some.is at c.facts_mut.follows.holds c.change_facts.new.facts)
    ∙ ap (λ (w : Facts). set_facts c.args.id w c.args.tree.now) c.change_facts.ensures
    ∙ facts_changed c.args.tree.now c.args.id (facts_after c.args.change) c.in-Some.facts.now at
