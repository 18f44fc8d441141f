use Rattle.std.proofs.Common.{◌≡◌, ◌+◌, ◌-◌, ◌*◌, sym, ◌∙◌, arith, true}
use Rattle.sx_text.specs.Numbers.{may_begin}
use Rattle.sx_text.proofs.Numbers.{may_is_below}
use Rattle.sx_text.proofs.number_reader.next_digit.Goals as goal

pub overflow_cast-result : goal.overflow_cast-result
overflow_cast-result c =
    let e : may_begin c.args.low c.args.high (c.args.so_far * 10 + (c.args.byte - 48)) ≡ true = sym c.may_go_on.ensures ∙ c.if-may_go_on.true in
    omega (arith, may_is_below c.args.low c.args.high (c.args.so_far * 10 + (c.args.byte - 48)) c.requires e, c.ranges.high.fits)
