use Rattle.std.proofs.Common.{ap, sym, refl, ◌∙◌}
use Rattle.std.specs.Cmp.{nat_cmp_is}
use Rattle.std.specs.declared.cmp.Ordering.TheVariants.{Equal}
use Rattle.std.specs.Ordering.{nat_cmp}
use Rattle.std.specs.BTreeMap.{is_at}
use Rattle.std.specs.Map.{remove_entry}
use Rattle.sx_tree.proofs.Undone.{undone}
use Rattle.sx_tree.proofs.tree.add_node.Goals as goal

pub returns-clause-full : goal.returns-clause-full
returns-clause-full c = λ _. let full = c.add_child.ensures.full c.if-add_child.false in let e = c.in-Ok.ensures.entries in
    c.remove.ensures.entries ∙ ap (remove_entry (is_at (nat_cmp c.args.id))) (full ∙ e)
    ∙ undone nat_cmp c.args.id c.args.slot c.args.nodes.now.entries (sym (nat_cmp_is c.args.id c.args.id Equal refl)) c.requires
