use Rattle.std.proofs.Common.{◌∙◌, ap, length}
use Rattle.sx_reply.proofs.Escaping.{escaped_words}
use Rattle.sx_reply.proofs.escapes.escaped_length.Goals as goal

pub returns-clause-length : goal.returns-clause-length
returns-clause-length c = c.escaped_words_length.ensures.length ∙ ap length (escaped_words c.args.words.now)
