use Rattle.sx_heads.proofs.fields.put_handle.Goals as goal

pub returns-in-None : goal.returns-in-None
returns-in-None c = rw c.in-None.is c.put.ensures
