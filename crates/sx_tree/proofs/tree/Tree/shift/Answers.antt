use Rattle.std.proofs.Common.{◌∙◌, ap, arith, refl}
use Rattle.sx_tree.specs.Tree.{slots_use, with_child}
use Rattle.sx_tree.proofs.Uses.{use_same, use_relist}
use Rattle.sx_tree.proofs.tree.Tree.shift.Goals as goal

pub overflow_sub-self : goal.overflow_sub-self
overflow_sub-self c =
    let i = c.self.invariant in
    let t = c.take_out.ensures.used in
    let a = ap slots_use (c.add_child.ensures.done c.if-not-add_child.false) ∙ use_same c.args.parent (with_child c.in_ok-folded.folded c.args.id) c.self.inside.nodes.entries (λ s. refl) in
    omega arith

pub invariant_of-self-2 : goal.invariant_of-self-2
invariant_of-self-2 c =
    let i = c.self.invariant in
    let t = c.take_out.ensures.used in
    let a = ap slots_use (c.add_child.ensures.done c.if-not-add_child.false) ∙ use_same c.args.parent (with_child c.in_ok-folded.folded c.args.id) c.self.inside.nodes.entries (λ s. refl) in
    let e = ap slots_use c.relist.ensures ∙ use_relist c.args.id c.args.parent c.args.name c.take_out.new.nodes.entries in
    omega arith
