use Rattle.std.proofs.Common.{◌∙◌, ap, length}
use Rattle.sx_reply.proofs.Escaping.{escaped_flat}
use Rattle.sx_reply.proofs.escapes.escaped_text_length.Goals as goal

pub returns-clause-length : goal.returns-clause-length
returns-clause-length c = c.escaped_bytes_length.ensures.length ∙ ap length (escaped_flat c.args.text.now)
