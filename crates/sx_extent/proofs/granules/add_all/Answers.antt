use Rattle.sx_extent.proofs.GranuleLemmas.{undone}
use Rattle.sx_extent.proofs.granules.add_all.Goals as goal

pub returns-in-Err-clause-err : goal.returns-in-Err-clause-err
returns-in-Err-clause-err c = undone c.args.granules.now.entries c.loop-i.granules.entries c.remove_all.new.granules.entries c.args.numbers.now c.loop-i.i c.requires c.loop-i.invariant (rw c.in-Err.ensures.err at c.remove_all.ensures)
