use Rattle.std.proofs.Common.{◌++◌}
use Rattle.std.proofs.lemmas.Bool.{cases_eq}
use Rattle.sx_text.specs.Readers.{after, closed_at}
use Rattle.sx_text.proofs.Laws.{reads_by, is_reading}
use Rattle.sx_text.proofs.Literals.{after-reading, closed-reading}
use Rattle.sx_text.proofs.theorems.literals_are_read.Goals as goal

pub returns-clause-before : goal.returns-clause-before
returns-clause-before c = λ s literal next a fits ok.
    is_reading cases_eq (λ x. literal ++ c.A.Form.text x) c.A.Form.Fits (after literal next) (λ k.
    after-reading k literal c.A.Form.text c.A.Form.Fits next (a, fits) (reads_by cases_eq c.A.Form.text c.A.Form.Fits next ok k))

pub returns-clause-behind : goal.returns-clause-behind
returns-clause-behind c = λ s literal read ok.
    is_reading cases_eq (λ x. c.A.Form.text x ++ literal) c.A.Form.Fits (closed_at read literal)
    (closed-reading c.A.Form.text c.A.Form.Fits read literal (reads_by cases_eq c.A.Form.text c.A.Form.Fits read ok))
