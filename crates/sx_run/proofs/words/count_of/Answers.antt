use Rattle.std.proofs.Common.{◌<◌, ◌^◌, ◌≡◌, sym, ◌∙◌, arith}
use Rattle.std.proofs.lemmas.Fmt.{decimal_injective}
use Rattle.sx_run.proofs.words.count_of.Goals as goal

pub returns-then-number-from-clause-fault : goal.returns-then-number-from-clause-fault
returns-then-number-from-clause-fault c n least most spelled =
    let some = c.in-Some.ensures.some in
    let limit : c.args.most < 2 ^ 32 = c.ranges.most.fits in
    let same : c.in-Some.number ≡ n = decimal_injective c.in-Some.number n (omega (arith, some.1, c.from.ensures, limit)) (omega (arith, most, limit)) (sym some.0 ∙ spelled) in
    omega (arith, same, least, c.if-number-from.true, c.from-2.ensures)
