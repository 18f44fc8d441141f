use Rattle.std.proofs.Common.{◌++◌}
use Rattle.sx_text.specs.Readers.{pair_at}
use Rattle.sx_text.proofs.Laws.{pair-reading, reads_by, is_reading}
use Rattle.sx_text.proofs.theorems.pairs_are_read.Goals as goal

pub returns : goal.returns
returns c = λ s decide first next ok some then.
    is_reading decide (λ x. c.A.Form.text x.0 ++ c.B.FormBehind.text x.0 x.1) (λ x. c.A.Form.Fits x.0 × c.B.FormBehind.Fits x.0 x.1) (pair_at first next) (λ k.
    pair-reading decide k c.A.Form.text c.A.Form.Fits first c.B.FormBehind.text c.B.FormBehind.Fits next (reads_by decide c.A.Form.text c.A.Form.Fits first ok) some
    (λ a j fits le. reads_by decide (c.B.FormBehind.text a) (c.B.FormBehind.Fits a) (next a) (then a fits) j))
