use Rattle.sx_spec.proofs.WholeRows.{step_whole}
use Rattle.sx_spec.proofs.WholeSteps.{whole_empty}
use Rattle.sx_spec.proofs.laws.steps_keep_wholeness.Goals as goal

pub returns : goal.returns
returns c = record { empty = whole_empty; steps = λ a last e w may limits. step_whole a last e w may limits }
