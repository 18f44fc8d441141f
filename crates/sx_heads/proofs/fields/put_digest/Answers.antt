use Rattle.sx_heads.specs.Values.{digest_text}
use Rattle.sx_heads.proofs.fields.put_digest.Goals as goal

pub returns : goal.returns
unfolding digest_text
returns c = rw c.text.ensures.text at c.put.ensures
