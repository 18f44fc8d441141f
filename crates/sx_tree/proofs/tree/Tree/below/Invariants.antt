use Rattle.std.proofs.Common.{◌≡◌, ◌++◌}
use Rattle.std.specs.List.{filter}
use Rattle.sx_tree.specs.Climbs.{lies_below, all_below}
use Rattle.sx_tree.proofs.tree.Tree.below.Given as goal

abbrev pub invariant-loop-id : goal.invariant-loop-id
invariant-loop-id l = l.ids ++ filter (lies_below l.fn.self l.dir) l.id-iterator ≡ all_below l.fn.self l.dir
