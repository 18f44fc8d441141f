use Rattle.sx_spec.proofs.Exact.{conflicts_exact}
use Rattle.sx_spec.proofs.laws.conflicts_are_exact.Goals as goal

pub returns : goal.returns
returns c = conflicts_exact
