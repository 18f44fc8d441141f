use Rattle.std.proofs.Common.{◌++◌}
use Rattle.std.proofs.lemmas.Bool.{cases_eq}
use Rattle.sx_text.specs.Numbers.{IsFrom, number_text, number_at, number_after}
use Rattle.sx_text.proofs.Laws.{is_reading}
use Rattle.sx_text.proofs.Numbers.{number-reading, number_after-reading}
use Rattle.sx_text.proofs.theorems.numbers_are_read.Goals as goal

pub returns-clause-alone : goal.returns-clause-alone
returns-clause-alone c = λ stop low high plain le wide. is_reading cases_eq (number_text stop) (IsFrom low high) (number_at stop low high) (number-reading stop low high plain le wide)

pub returns-clause-behind : goal.returns-clause-behind
returns-clause-behind c = λ literal stop low high plain le wide. is_reading cases_eq (λ n. literal ++ number_text stop n) (IsFrom low high) (number_after literal stop low high) (number_after-reading literal stop low high plain le wide)
