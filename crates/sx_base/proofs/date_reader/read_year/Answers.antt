use Rattle.std.proofs.Common.{sym, ◌∙◌, arith}
use Rattle.sx_text.specs.Digits.{digits_text}
use Rattle.sx_text.proofs.NameTexts.{named_found}
use Rattle.sx_base.specs.DateReader.{falls_on}
use Rattle.sx_base.proofs.date_reader.read_year.Goals as goal

pub returns-in-Ok : goal.returns-in-Ok
returns-in-Ok c =
    sym c.loop-year.invariant
    ∙ named_found (digits_text 4) (falls_on c.args.weekday c.args.day c.args.month) c.loop-year.left 9893 c.loop-year.year c.args.bytes.now c.in-Ok.rest.now (omega (arith, c.loop-year-test.true))
    (rw (c.is_dated-is_allowed.ensures, c.year_digits.ensures) at c.in-Ok.ensures)
