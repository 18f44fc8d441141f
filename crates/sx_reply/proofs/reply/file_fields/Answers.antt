use Rattle.std.proofs.Common.{refl}
use Rattle.sx_reply.proofs.reply.file_fields.Goals as goal

pub returns : goal.returns
returns c = rw c.pairs.ensures.value refl
