use Rattle.std.proofs.lemmas.Result.{err_from_is_err_and}
use Rattle.std.proofs.Common.{get_or}
use Rattle.sx_decode.specs.Targets.{part_of}
use Rattle.sx_decode.proofs.Each.{each_step, each_refused, reads_err, no_item}
use Rattle.sx_decode.proofs.targets.parts_of.Goals as goal

pub returns-in_err-part : goal.returns-in_err-part
returns-in_err-part c =
    let i = c.loop-segment.segment-index in
    let k = c.loop-segment.number in
    let at = get_or c.args.segments.now i no_item in
    let p = err_from_is_err_and c.from_residual.result c.from_residual.ensures.1 in
    rw (p.1, p.2) (reads_err c.in_err-part.field-0.0 (part_of k at.now) _ c.in_err-part.ensures
    (λ s e. each_refused part_of _ c.loop-segment.parts k i c.args.segments.now s c.loop-segment-test.true c.loop-segment.invariant e))

pub loop-segment-preserved : goal.loop-segment-preserved
loop-segment-preserved c =
    rw (c.in_ok-push.ensures.ok, c.saturating_add-number.ensures) (each_step part_of _ c.loop-segment.parts c.loop-segment.number c.loop-segment.segment-index c.args.segments.now c.in_ok-part.part c.loop-segment-test.true c.loop-segment.invariant c.in_ok-part.ensures)
