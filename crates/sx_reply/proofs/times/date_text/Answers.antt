use Rattle.sx_base.proofs.Dates.{one_date_only}
use Rattle.sx_reply.proofs.times.date_text.Goals as goal

pub returns : goal.returns
returns c = one_date_only c.print_date.result c.args.at (rw c.ticks.ensures.value at c.print_date.ensures)
