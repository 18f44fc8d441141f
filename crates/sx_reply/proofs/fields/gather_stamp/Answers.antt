use Rattle.sx_reply.specs.Headers.{stamp_text}
use Rattle.sx_reply.proofs.fields.gather_stamp.Goals as goal

pub returns : goal.returns
unfolding stamp_text
returns g c = rw (c.date_text-changed.ensures, c.tag_digits-tag.ensures) at c.gather.ensures
