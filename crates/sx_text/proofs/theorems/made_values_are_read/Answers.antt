use Rattle.sx_text.specs.Readers.{made_at}
use Rattle.sx_text.proofs.Laws.{made-reading, reads_by, is_reading}
use Rattle.sx_text.proofs.theorems.made_values_are_read.Goals as goal

pub returns : goal.returns
returns c = λ s decide make part read to from ok.
    is_reading decide c.B.Form.text c.B.Form.Fits (made_at make read) (λ k.
    made-reading decide k c.A.Form.text c.A.Form.Fits read make part c.B.Form.text c.B.Form.Fits to from (reads_by decide c.A.Form.text c.A.Form.Fits read ok k))
