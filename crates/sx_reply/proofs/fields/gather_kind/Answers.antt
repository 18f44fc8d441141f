use Rattle.sx_reply.proofs.fields.gather_kind.Goals as goal

pub returns : goal.returns
returns g c = rw c.kind_of.ensures at c.gather_line.ensures
