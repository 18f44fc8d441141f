use Rattle.std.proofs.Common.{ℕ, List, ap, arith}
use Rattle.sx_tree.specs.Body.{body_after}
use Rattle.sx_tree.specs.Tree.{Slot, slots_use, use_at, body_changed}
use Rattle.sx_tree.proofs.Uses.{use_remove, use_after}
use Rattle.sx_tree.proofs.tree.Tree.change_body.Goals as goal

pub overflow_sub-self : goal.overflow_sub-self
overflow_sub-self c =
    let r = use_remove c.args.id c.self.inside.nodes.entries in
    let b = c.use_at-before.ensures.value in
    let i = c.self.invariant in
    omega arith

pub invariant_of-self : goal.invariant_of-self
invariant_of-self c =
    let es = c.self.inside.nodes.entries in
    let r = use_remove c.args.id es in
    let b = c.use_at-before.ensures.value in
    let i = c.self.invariant in
    let n = c.in-Ok.ensures.ok in
    let a = use_after c.args.id (body_changed (body_after c.args.change)) es in
    let t = c.use_at.ensures.value in
    let p = ap slots_use n in
    let q = ap (λ (xs : List (ℕ × Slot)). use_at xs c.args.id) n in
    omega arith
