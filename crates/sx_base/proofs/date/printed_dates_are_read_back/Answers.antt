use Rattle.std.proofs.Common.{◌≡◌, ℕ, ◌*◌, List, ap, ◌∙◌, inl}
use Rattle.httpdate.specs.Date.{date_text, IsDateText}
use Rattle.httpdate.specs.Valid.{parts_secs}
use Rattle.httpdate.specs.declared.date.HttpDate.{HttpDate}
use Rattle.httpdate.proofs.Theorems.{IsDateText_unique}
use Rattle.sx_base.proofs.date.printed_dates_are_read_back.Goals as goal

shown : (text : List ℕ) (d : HttpDate) → text ≡ date_text d → IsDateText text d
shown text d e = inl e

pub returns-clause-some : goal.returns-clause-some
returns-clause-some c = λ text at h none. none h.0 (shown text h.0 h.2)

pub returns-clause-same : goal.returns-clause-same
returns-clause-same c = λ text at read h r.
    r.2 ∙ ap (λ (n : ℕ). n * 10_000_000) (ap parts_secs (IsDateText_unique text r.0 h.0 r.1 (shown text h.0 h.2)) ∙ h.1)
