use Rattle.sx_reply.specs.Headers.{facts_text}
use Rattle.sx_reply.proofs.fields.gather_facts.Goals as goal

pub returns : goal.returns
unfolding facts_text
returns g c =
    rw (c.moment_text-created.ensures, c.moment_text-written.ensures, c.moment_text-changed.ensures) at c.gather.ensures
