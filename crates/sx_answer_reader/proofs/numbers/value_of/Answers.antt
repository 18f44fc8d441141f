use Rattle.std.proofs.Common.{get_or, arith, refl}
use Rattle.std.specs.Char.{is_ascii_digit}
use Rattle.std.proofs.lemmas.Int.Digits.{digits_value_more}
use Rattle.std.proofs.lemmas.List.Sums.{AllPass-from_list_all}
use Rattle.sx_lines.proofs.DecimalDigits.{digit_is, ten_more}
use Rattle.sx_answer_reader.proofs.numbers.value_of.Goals as goal

pub loop-digit-preserved : goal.loop-digit-preserved
loop-digit-preserved c =
    let i = c.loop-digit.digit-index in
    let d = digit_is (get_or c.args.word.now i 0) (AllPass-from_list_all is_ascii_digit c.args.word.now c.requires.digits i 0 c.loop-digit-test.true) in
    let v = digits_value_more 10 c.args.word.now i c.loop-digit-test.true in
    (rw (c.loop-digit.invariant.0, v, d.2) refl, omega (arith, ten_more i, d.0, d.1, c.loop-digit.invariant.1))
