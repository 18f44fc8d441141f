use Rattle.std.proofs.Common.{subst, sym}
use Rattle.std.specs.Prelude.{IsUtf8}
use Rattle.sx_http.proofs.HeadLemmas.{lower_text}
use Rattle.sx_http.proofs.parse.lower_name.Goals as goal

pub text_of-requires : goal.text_of-requires
text_of-requires c = subst IsUtf8 (sym c.in_ok-lowered.ensures) (lower_text c.args.token.now c.requires)
