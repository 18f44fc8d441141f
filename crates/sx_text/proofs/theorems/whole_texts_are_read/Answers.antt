use Rattle.sx_text.proofs.Laws.{whole-reading, reads_by}
use Rattle.sx_text.proofs.theorems.whole_texts_are_read.Goals as goal

pub returns : goal.returns
returns c = λ s decide read ok. whole-reading decide c.A.Form.text c.A.Form.Fits read (reads_by decide c.A.Form.text c.A.Form.Fits read ok)
