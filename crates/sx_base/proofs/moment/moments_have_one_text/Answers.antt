use Rattle.sx_base.proofs.MomentFields.{one_text_only, one_text_at}
use Rattle.sx_base.proofs.moment.moments_have_one_text.Goals as goal

pub returns-clause-only : goal.returns-clause-only
returns-clause-only c = one_text_only

pub returns-clause-some : goal.returns-clause-some
returns-clause-some c = one_text_at
