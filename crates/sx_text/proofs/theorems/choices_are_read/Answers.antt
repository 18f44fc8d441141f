use Rattle.std.proofs.Common.{◌⊎◌}
use Rattle.std.proofs.lemmas.Bool.{cases_eq}
use Rattle.sx_text.specs.Readers.{either_at}
use Rattle.sx_text.proofs.Laws.{reads_by, is_reading}
use Rattle.sx_text.proofs.Choices.{either-reading}
use Rattle.sx_text.proofs.theorems.choices_are_read.Goals as goal

pub returns : goal.returns
returns c = λ s start first second a fits starts apart ok₁ ok₂.
    is_reading cases_eq c.A.TwoForms.text (λ a. c.A.TwoForms.First a ⊎ c.A.TwoForms.Second a) (either_at start first second) (λ k.
    either-reading k start c.A.TwoForms.text c.A.TwoForms.First c.A.TwoForms.Second first second (a, fits) starts apart
    (reads_by cases_eq c.A.TwoForms.text c.A.TwoForms.First first ok₁ k) (reads_by cases_eq c.A.TwoForms.text c.A.TwoForms.Second second ok₂ k))
