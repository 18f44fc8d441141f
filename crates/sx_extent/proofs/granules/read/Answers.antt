use Rattle.std.proofs.Common.{arith}
use Rattle.sx_extent.proofs.GranuleSteps.{bytes_from-none, read_more, length-part}
use Rattle.sx_extent.proofs.granules.read.Goals as goal

pub loop-done-init : goal.loop-done-init
loop-done-init c = (omega arith, bytes_from-none c.args.granules.now.entries c.args.at)

pub loop-done-preserved : goal.loop-done-preserved
loop-done-preserved c =
    read_more c.args.granules.now.entries c.args.at c.loop-done.done _ c.min-count.result _ c.loop-done.into c.read_part.new.into (omega arith) c.loop-done.invariant.1 c.read_part.ensures (length-part c.loop-done.done c.min-count.result c.loop-done.into (omega arith)) (omega arith)
