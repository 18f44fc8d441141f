use Rattle.std.proofs.Common.{get_or, arith, refl}
use Rattle.std.specs.Char.{is_ascii_digit}
use Rattle.std.proofs.lemmas.Int.Digits.{digits_value_more}
use Rattle.std.proofs.lemmas.List.Sums.{AllPass-from_list_all}
use Rattle.sx_decode.proofs.Digits.{digit_is, ten_more}
use Rattle.sx_decode.proofs.numbers.value_of.Goals as goal

pub loop-b-preserved : goal.loop-b-preserved
loop-b-preserved c =
    let i = c.loop-b.b-index in
    let d = digit_is (get_or c.args.text.now i 0) (AllPass-from_list_all is_ascii_digit c.args.text.now c.requires.digits i 0 c.loop-b-test.true) in
    let v = digits_value_more 10 c.args.text.now i c.loop-b-test.true in
    (rw (c.loop-b.invariant.0, v, d.2) refl, omega (arith, ten_more i, d.0, d.1, c.loop-b.invariant.1))
