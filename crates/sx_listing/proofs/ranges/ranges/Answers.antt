use Rattle.std.proofs.Common.{◌≡◌, ◌+◌, ◌<◌, length, get_or, Ok, ap, sym, ◌∙◌, arith}
use Rattle.std.proofs.lemmas.List.{take_rest}
use Rattle.sx_text.specs.Readers.{values_at}
use Rattle.sx_text.proofs.Loops.{loop_goes_on, loop_stops}
use Rattle.sx_listing.specs.Ranges.{range_at, range_of}
use Rattle.sx_listing.proofs.ranges.ranges.Goals as goal

pub returns-then-rest-eq47 : goal.returns-then-rest-eq47
returns-then-rest-eq47 c =
    let count = length c.args.bytes.now + 1 in
    let rest = c.loop.rest.now in
    let some : 0 < length rest = grind arith in
    let slash : get_or rest 0 0 ≡ 47 = grind arith in
    loop_stops 47 range_at c.loop.spans count c.loop.counter rest (values_at count 47 range_at c.args.bytes.now)
    c.loop-test.true some slash c.loop.invariant
    ∙ ap (λ r. Ok (c.loop.spans, r)) (sym (take_rest rest 1))

pub loop-preserved : goal.loop-preserved
loop-preserved c =
    let count = length c.args.bytes.now + 1 in
    let rest = c.loop.rest.now in
    let some : 0 < length rest = grind arith in
    let other : get_or rest 0 0 ≡ 47 → ⊥ = λ e. grind arith in
    rw c.in-Ok.ensures.ok (loop_goes_on 47 range_at c.loop.spans count c.loop.counter rest
    (range_of (c.in_ok-from.from, c.in_ok-from.last)) c.in_ok-from.after.now (values_at count 47 range_at c.args.bytes.now)
    c.loop-test.true some other c.in_ok-from.ensures.reading c.loop.invariant)
