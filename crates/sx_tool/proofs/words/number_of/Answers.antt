use Rattle.std.proofs.Common.{◌≡◌, ◌<◌, ◌^◌, ap, ◌∙◌, arith}
use Rattle.std.specs.Prelude.{decimal}
use Rattle.std.proofs.lemmas.Fmt.{parse-decimal}
use Rattle.sx_tool.proofs.words.number_of.Goals as goal

pub returns-in_default-clause-none : goal.returns-in_default-clause-none
returns-in_default-clause-none c n h =
    let small : n < 2 ^ 64 = omega (arith, h.1) in
    c.in_default.not-Ok n (parse-decimal 64 n c.args.word.now c.parse.result small small h.0 c.parse.ensures.value.0)

pub returns-then-number-most-clause-none : goal.returns-then-number-most-clause-none
returns-then-number-most-clause-none c n h =
    let small : n < 2 ^ 64 = omega (arith, h.1) in
    let read = parse-decimal 64 n c.args.word.now c.parse.result small small h.0 c.parse.ensures.value.0 in
    let same : c.in-Ok.number ≡ n = cc in
    omega (arith, same, h.1, c.if-number-most.true)

pub returns-else-is_decimal-clause-none : goal.returns-else-is_decimal-clause-none
returns-else-is_decimal-clause-none c n h =
    let small : n < 2 ^ 64 = omega (arith, h.1) in
    let read = parse-decimal 64 n c.args.word.now c.parse.result small small h.0 c.parse.ensures.value.0 in
    let same : n ≡ c.in-Ok.number = cc in
    c.is_decimal.ensures.no c.if-is_decimal.false (h.0 ∙ ap decimal same)
