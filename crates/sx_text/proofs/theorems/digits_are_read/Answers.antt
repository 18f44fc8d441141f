use Rattle.std.proofs.Common.{suc, ◌++◌}
use Rattle.std.proofs.lemmas.Bool.{cases_eq}
use Rattle.sx_text.specs.Numbers.{IsFrom}
use Rattle.sx_text.specs.Digits.{digits_text, digits_at, digits_after}
use Rattle.sx_text.proofs.Laws.{is_reading}
use Rattle.sx_text.proofs.FixedDigits.{digits-reading, digits_after-reading}
use Rattle.sx_text.proofs.theorems.digits_are_read.Goals as goal

pub returns-clause-alone : goal.returns-clause-alone
returns-clause-alone c = λ more low high le short. is_reading cases_eq (digits_text (suc more)) (IsFrom low high) (digits_at more low high) (digits-reading more low high le short)

pub returns-clause-behind : goal.returns-clause-behind
returns-clause-behind c = λ literal more low high le short. is_reading cases_eq (λ n. literal ++ digits_text (suc more) n) (IsFrom low high) (digits_after literal more low high) (digits_after-reading literal more low high le short)
