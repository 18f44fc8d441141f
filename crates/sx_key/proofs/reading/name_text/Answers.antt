use Rattle.sx_key.proofs.Ascii.{name_is_utf8}
use Rattle.sx_key.proofs.reading.name_text.Goals as goal

pub text_of-requires : goal.text_of-requires
text_of-requires c = rw c.in_ok-name.ensures.items (name_is_utf8 c.args.name.now c.requires)
