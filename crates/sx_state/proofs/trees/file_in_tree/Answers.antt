use Rattle.std.proofs.Common.{◌∙◌, ap, ℕ, List}
use Rattle.sx_tree.specs.Body.{body_after}
use Rattle.sx_tree.specs.Tree.{Nodes, Slot, slot_with, body_changed}
use Rattle.sx_spec.specs.Trees.{change_node, with_facts}
use Rattle.sx_state.specs.Changed.{facts_after}
use Rattle.sx_state.proofs.Changes.{change_twice}
use Rattle.sx_state.proofs.trees.file_in_tree.Goals as goal

pub returns-in-Ok-clause-ok : goal.returns-in-Ok-clause-ok
returns-in-Ok-clause-ok c =
    let f = facts_after c.args.facts in
    c.facts_in_tree.ensures
    ∙ ap (λ (t : Nodes). change_node c.args.id (with_facts f) t) c.in-Ok.ensures.ok
    ∙ ap (λ (slots : List (ℕ × Slot)). record c.args.tree.now { slots = slots })
    (change_twice c.args.id (slot_with (with_facts f)) (body_changed (body_after c.args.body)) c.args.tree.now.slots)
