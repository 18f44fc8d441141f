use Rattle.std.proofs.Common.{◌≡◌, ◌-◌, ◌/◌, sym, arith}
use Rattle.std.proofs.lemmas.List.{take-replicate}
use Rattle.sx_extent.proofs.GranuleLemmas.{IsSized-put}
use Rattle.sx_extent.proofs.GranuleSteps.{touches_true, erased_whole, erased_part}
use Rattle.sx_extent.proofs.granules.erase_in.Goals as goal

pub write_part-requires-clause-marked : goal.write_part-requires-clause-marked
write_part-requires-clause-marked c =
    let t = touches_true c.args.from c.args.end c.args.g c.requires.touched in
    let e : c.max-low.result / 512 ≡ c.args.g = omega arith in
    rw e c.requires.marked

pub returns-then-is_covered-clause-marks : goal.returns-then-is_covered-clause-marks
returns-then-is_covered-clause-marks c =
    (erased_whole _ _ c.args.from c.args.end c.args.length c.args.g c.remove_one.ensures (sym c.if-is_covered.ensures) c.requires.zeros).0

pub returns-then-is_covered-clause-bytes : goal.returns-then-is_covered-clause-bytes
returns-then-is_covered-clause-bytes c =
    (erased_whole _ _ c.args.from c.args.end c.args.length c.args.g c.remove_one.ensures (sym c.if-is_covered.ensures) c.requires.zeros).1

pub returns-then-is_covered-clause-sized : goal.returns-then-is_covered-clause-sized
returns-then-is_covered-clause-sized c = IsSized-put c.remove_one.ensures c.requires.sized tt

pub returns-else-is_covered-clause-bytes : goal.returns-else-is_covered-clause-bytes
returns-else-is_covered-clause-bytes c =
    let t = touches_true c.args.from c.args.end c.args.g c.requires.touched in
    let n = c.min.result - c.max-low.result in
    erased_part _ _ c.args.from c.args.end c.args.g c.max-low.result n _ c.write_part.ensures.written (take-replicate n 512 0 (omega arith)) t (omega arith) (omega arith)
