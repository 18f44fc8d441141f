use Rattle.std.proofs.Common.{◌≡◌, ◌+◌, ◌<◌, length, get_or, Ok, ap, sym, ◌∙◌, arith}
use Rattle.std.proofs.lemmas.List.{take_rest}
use Rattle.sx_text.specs.Readers.{values_at}
use Rattle.sx_text.proofs.Loops.{loop_goes_on, loop_stops}
use Rattle.sx_listing.specs.SharesReader.{share_at, share_of}
use Rattle.sx_listing.proofs.shares_reader.shares.Goals as goal

pub returns-then-rest-eq47 : goal.returns-then-rest-eq47
returns-then-rest-eq47 c =
    let count = length c.args.bytes.now + 1 in
    let rest = c.loop.rest.now in
    let some : 0 < length rest = grind arith in
    let slash : get_or rest 0 0 ≡ 47 = grind arith in
    loop_stops 47 share_at c.loop.items count c.loop.counter rest (values_at count 47 share_at c.args.bytes.now)
    c.loop-test.true some slash c.loop.invariant
    ∙ ap (λ r. Ok (c.loop.items, r)) (sym (take_rest rest 1))

pub loop-preserved : goal.loop-preserved
loop-preserved c =
    let count = length c.args.bytes.now + 1 in
    let rest = c.loop.rest.now in
    let some : 0 < length rest = grind arith in
    let other : get_or rest 0 0 ≡ 47 → ⊥ = λ e. grind arith in
    rw (c.in-Ok.ensures.ok, c.of-in-loop.ensures, c.of.ensures, c.moment_from.ensures, c.text_of.ensures) (loop_goes_on 47 share_at c.loop.items count c.loop.counter rest
    (share_of ((c.in_ok-name.name.items, c.in_ok-name.snapshot), (c.in_ok-name.changed, (c.in_ok-name.etag, c.in_ok-name.quota))))
    c.in_ok-name.after.now (values_at count 47 share_at c.args.bytes.now)
    c.loop-test.true some other c.in_ok-name.ensures.reading c.loop.invariant)
