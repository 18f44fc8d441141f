use Rattle.sx_spec.proofs.Histories.{legal_beginning, legal_fits, legal_clock}
use Rattle.sx_spec.proofs.laws.histories_begin_and_fit.Goals as goal

pub returns : goal.returns
returns c = record { beginning = legal_beginning; fits = legal_fits; clock = legal_clock }
