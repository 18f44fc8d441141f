use Rattle.sx_reply.proofs.fields.gather_snapshot.Goals as goal

pub returns : goal.returns
returns g c = rw c.moment_text-text.ensures at c.gather.ensures
