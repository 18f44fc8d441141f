use Rattle.sx_key.proofs.Ascii.{authorization_is_utf8}
use Rattle.sx_key.proofs.signing.sign.Goals as goal

pub text_of-requires : goal.text_of-requires
text_of-requires c = rw c.in_ok-value.ensures (authorization_is_utf8 c.args.head.now c.args.account.now)
