use Rattle.std.proofs.Common.{◌+◌, ◌/◌, ◌∙◌, arith, length}
use Rattle.sx_extent.proofs.GranuleSteps.{touches_at, IsWritten-more, part_is}
use Rattle.sx_extent.proofs.granules.write.Goals as goal

pub write_part-requires-clause-marked : goal.write_part-requires-clause-marked
write_part-requires-clause-marked c =
    let at = c.args.at in
    let place = at + c.loop-done.done in
    c.loop-done.invariant.1.marks (place / 512) ∙ c.requires.marked (place / 512) (touches_at at (at + length c.args.bytes.now) place (omega arith) (omega arith))

pub loop-done-preserved : goal.loop-done-preserved
loop-done-preserved c =
    (omega arith, IsWritten-more _ _ _ c.args.at c.loop-done.done c.min-count.result c.args.bytes.now _ c.loop-done.invariant.1 c.write_part.ensures.written (part_is c.loop-done.done c.min-count.result c.args.bytes.now) (omega arith), c.write_part.ensures.sized)
