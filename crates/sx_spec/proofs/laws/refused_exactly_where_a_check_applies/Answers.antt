use Rattle.std.proofs.Common.{refl}
use Rattle.sx_spec.proofs.Refusals.{refused_is, refused_keeps}
use Rattle.sx_spec.proofs.laws.refused_exactly_where_a_check_applies.Goals as goal

pub returns : goal.returns
returns c = record { reply = refused_is; store = refused_keeps; came = λ a e. refl }
