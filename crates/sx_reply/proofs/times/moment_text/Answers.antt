use Rattle.sx_base.proofs.MomentFields.{one_text_only}
use Rattle.sx_reply.proofs.times.moment_text.Goals as goal

pub returns : goal.returns
returns c = one_text_only c.print_moment.result c.args.at (rw c.ticks.ensures.value at c.print_moment.ensures)
