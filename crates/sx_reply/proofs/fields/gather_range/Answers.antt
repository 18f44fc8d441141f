use Rattle.sx_reply.proofs.fields.gather_range.Goals as goal

pub returns : goal.returns
returns g c = rw (← c.part.view_is) (rw (c.last_of-last.ensures, c.length.ensures.bytes) at c.gather_range_lines.ensures)
