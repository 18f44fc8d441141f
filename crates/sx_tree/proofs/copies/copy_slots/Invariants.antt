use Rattle.std.proofs.Common.{◌≡◌, ◌++◌}
use Rattle.sx_tree.specs.Copies.{copied_slots}
use Rattle.sx_tree.proofs.copies.copy_slots.Given as goal

abbrev pub invariant-loop-id : goal.invariant-loop-id
invariant-loop-id l = l.copy.entries ++ copied_slots l.rest l.id-iterator ≡ copied_slots l.rest l.nodes.entries
