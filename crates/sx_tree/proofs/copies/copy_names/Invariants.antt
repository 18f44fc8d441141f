use Rattle.std.proofs.Common.{◌≡◌, ◌++◌}
use Rattle.sx_tree.proofs.copies.copy_names.Given as goal

abbrev pub invariant-loop-name : goal.invariant-loop-name
invariant-loop-name l = l.copy.entries ++ l.name-iterator ≡ l.below.entries
