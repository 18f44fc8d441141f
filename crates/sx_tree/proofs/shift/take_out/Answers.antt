use Rattle.std.proofs.Common.{ap, arith}
use Rattle.sx_tree.specs.Tree.{slots_use}
use Rattle.sx_tree.proofs.Uses.{use_remove}
use Rattle.sx_tree.proofs.shift.take_out.Goals as goal

pub returns-in-Some-clause-used : goal.returns-in-Some-clause-used
returns-in-Some-clause-used c =
    let r = use_remove c.in-Some.id c.args.nodes.now.entries in
    let u = c.use_at-used.ensures.value in
    let e = ap slots_use c.remove.ensures.entries in
    omega arith
