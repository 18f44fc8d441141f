use Rattle.sx_base.proofs.Dates.{one_date_only, one_date_at}
use Rattle.sx_base.proofs.date.moments_have_one_date.Goals as goal

pub returns-clause-only : goal.returns-clause-only
returns-clause-only c = one_date_only

pub returns-clause-some : goal.returns-clause-some
returns-clause-some c = one_date_at
