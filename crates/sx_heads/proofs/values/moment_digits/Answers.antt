use Rattle.std.proofs.Common.{ap, ◌∙◌}
use Rattle.sx_base.specs.Moment.{moment_text}
use Rattle.sx_base.proofs.MomentFields.{one_text_only}
use Rattle.sx_heads.proofs.values.moment_digits.Goals as goal

pub returns : goal.returns
returns c = one_text_only c.print_moment.result c.ticks.result c.print_moment.ensures ∙ ap moment_text c.ticks.ensures.value
