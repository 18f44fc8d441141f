use Rattle.std.proofs.Common.{sym, ◌∙◌, arith}
use Rattle.sx_text.proofs.NameTexts.{named_found}
use Rattle.sx_base.specs.Date.{month_name}
use Rattle.sx_base.specs.DateReader.{has_day}
use Rattle.sx_base.proofs.date_reader.read_month.Goals as goal

pub returns-in-Ok-clause-reading : goal.returns-in-Ok-clause-reading
returns-in-Ok-clause-reading c =
    sym c.loop-month.invariant
    ∙ named_found month_name (has_day c.args.day) c.loop-month.left 13 c.loop-month.month c.args.bytes.now c.in-Ok.rest.now (omega (arith, c.loop-month-test.true))
    (rw (c.is_day_of.ensures, c.month_letters.ensures) at c.in-Ok.ensures)
