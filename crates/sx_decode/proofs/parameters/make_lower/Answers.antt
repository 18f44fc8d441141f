use Rattle.std.proofs.Common.{get_or, length, ◌<◌, arith}
use Rattle.std.specs.Char.{to_ascii_lowercase}
use Rattle.std.proofs.lemmas.List.Edits.{map_over_more}
use Rattle.std.proofs.lemmas.List.{get_or_default}
use Rattle.sx_decode.proofs.parameters.make_lower.Goals as goal

pub loop-b-preserved : goal.loop-b-preserved
loop-b-preserved c =
    let x = get_or c.loop-b.bytes c.loop-b.b-index 0 in
    let within : c.loop-b.b-index < length c.loop-b.bytes = omega (arith, c.loop-b-test.true, c.loop-b.auto.bytes) in
    rw c.to_ascii_lowercase.ensures.value
    (map_over_more to_ascii_lowercase c.args.bytes.now c.loop-b.bytes c.loop-b.b-index x c.loop-b-test.true c.loop-b.invariant (get_or_default c.loop-b.bytes c.loop-b.b-index 0 x within))
