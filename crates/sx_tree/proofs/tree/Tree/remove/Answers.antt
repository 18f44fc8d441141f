use Rattle.std.proofs.Common.{◌≡◌, ◌∙◌, ap, arith, sym}
use Rattle.sx_tree.specs.Node.{kind_use}
use Rattle.sx_tree.specs.Tree.{Slot, slots_use, slot_use, use_at}
use Rattle.sx_tree.proofs.Uses.{use_remove, use_unlisted}
use Rattle.sx_tree.proofs.tree.Tree.remove.Goals as goal

pub overflow_sub-self : goal.overflow_sub-self
overflow_sub-self c =
    let es = c.self.inside.nodes.entries in
    let r = use_remove c.args.id es in
    let u = c.used.ensures.value in
    let i = c.self.invariant in
    let v : use_at es c.args.id ≡ c.used.result = ap slot_use (sym c.in-Some.ensures.value) ∙ ap (λ (s : Slot). kind_use s.node.kind) (sym c.slot.view_is) ∙ sym u in
    omega arith

pub invariant_of-self-2 : goal.invariant_of-self-2
invariant_of-self-2 c =
    let es = c.self.inside.nodes.entries in
    let r = use_remove c.args.id es in
    let u = c.used.ensures.value in
    let i = c.self.invariant in
    let v : use_at es c.args.id ≡ c.used.result = ap slot_use (sym c.in-Some.ensures.value) ∙ ap (λ (s : Slot). kind_use s.node.kind) (sym c.slot.view_is) ∙ sym u in
    let e = ap slots_use c.unlist.ensures ∙ use_unlisted _ _ c.remove.new.self.entries ∙ ap slots_use c.remove.ensures.entries in
    omega arith
