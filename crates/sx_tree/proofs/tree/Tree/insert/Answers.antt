use Rattle.std.proofs.Common.{◌≡◌, ◌+◌, ◌∙◌, ap, arith, refl, Some, None}
use Rattle.std.specs.Ordering.{nat_cmp}
use Rattle.std.specs.BTreeMap.{insert_entry}
use Rattle.sx_base.specs.Entries.{value_at}
use Rattle.sx_tree.specs.Node.{kind_use}
use Rattle.sx_tree.specs.Tree.{Nodes, Slot, slot_at, slots_use, with_child}
use Rattle.sx_tree.proofs.Uses.{use_insert, use_same}
use Rattle.sx_tree.proofs.tree.Tree.insert.Goals as goal

pub invariant_of-self : goal.invariant_of-self
invariant_of-self c =
    let id = c.args.node.id in
    let es = c.self.inside.nodes.entries in
    let slot : Slot = record { node = c.args.node; name = Some c.args.name; below = c.new.result.entries } in
    let none : value_at es id ≡ None = ap (λ (t : Nodes). slot_at t id) c.self.view_is ∙ c.requires in
    let u = c.used.ensures.value in
    let i = c.self.invariant in
    let d = c.in-Some.ensures in
    let s : slots_use c.add_node.new.nodes.entries ≡ slots_use es + kind_use c.args.node.kind =
    ap slots_use (c.add_node.ensures.done c.if-add_node.true)
    ∙ use_same c.args.parent (with_child c.in_ok-folded.folded id) (insert_entry nat_cmp es id slot) (λ s. refl)
    ∙ use_insert id slot es none in
    omega arith
