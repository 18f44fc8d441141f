use Rattle.sx_text.specs.Machines.{run_from}
use Rattle.sx_text.proofs.Laws.{is_reading}
use Rattle.sx_text.proofs.Machines.{machine-reading}
use Rattle.sx_text.proofs.theorems.machines_read.Goals as goal

pub returns : goal.returns
returns c = λ start decide step s ok live sound complete.
    is_reading decide c.V.Form.text c.V.Form.Fits (run_from step s) (machine-reading decide step c.S.State.Live s c.V.Form.text c.V.Form.Fits ok live sound complete)
