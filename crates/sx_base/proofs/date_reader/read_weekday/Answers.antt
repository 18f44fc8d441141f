use Rattle.std.proofs.Common.{sym, ◌∙◌, arith}
use Rattle.sx_text.proofs.NameTexts.{named_found}
use Rattle.sx_base.specs.Date.{weekday_name}
use Rattle.sx_base.specs.DateReader.{any_weekday}
use Rattle.sx_base.proofs.date_reader.read_weekday.Goals as goal

pub returns-in-Ok : goal.returns-in-Ok
returns-in-Ok c =
    sym c.loop-weekday.invariant
    ∙ named_found weekday_name any_weekday c.loop-weekday.left 7 c.loop-weekday.weekday c.args.bytes.now c.in-Ok.rest.now (omega (arith, c.loop-weekday-test.true))
    (rw c.weekday_letters.ensures at c.in-Ok.ensures)
