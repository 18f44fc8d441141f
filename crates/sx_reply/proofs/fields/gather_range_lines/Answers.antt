use Rattle.sx_reply.proofs.fields.gather_range_lines.Goals as goal

pub returns-then-whole : goal.returns-then-whole
returns-then-whole g c = rw c.if-whole.true c.gather_bytes.ensures

pub returns : goal.returns
returns g c = rw c.if-whole.false c.gather.ensures
