use Rattle.std.proofs.lemmas.Bool.{cases_eq}
use Rattle.std.specs.List.{AllByRecursion}
use Rattle.sx_text.specs.Readers.{all_values_at, values_text}
use Rattle.sx_text.proofs.Laws.{reads_by, is_reading}
use Rattle.sx_text.proofs.Values.{values-reading}
use Rattle.sx_text.proofs.theorems.values_are_read.Goals as goal

pub returns : goal.returns
returns c = λ s stop read starts ok.
    is_reading cases_eq (values_text c.A.Form.text stop) (AllByRecursion c.A.Form.Fits) (all_values_at stop read)
    (values-reading stop c.A.Form.text c.A.Form.Fits read starts (reads_by cases_eq c.A.Form.text c.A.Form.Fits read ok))
