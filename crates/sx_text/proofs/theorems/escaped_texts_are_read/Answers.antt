use Rattle.std.proofs.Common.{◌++◌}
use Rattle.std.proofs.lemmas.Bool.{cases_eq}
use Rattle.sx_text.specs.Escapes.{IsWhole, escaped_text, escaped_at, escaped_after}
use Rattle.sx_text.proofs.Laws.{is_reading}
use Rattle.sx_text.proofs.EscapedTexts.{escaped-reading, escaped_after-reading}
use Rattle.sx_text.proofs.theorems.escaped_texts_are_read.Goals as goal

pub returns-clause-alone : goal.returns-clause-alone
returns-clause-alone c = is_reading cases_eq escaped_text IsWhole escaped_at escaped-reading

pub returns-clause-behind : goal.returns-clause-behind
returns-clause-behind c = λ literal. is_reading cases_eq (λ bytes. literal ++ escaped_text bytes) IsWhole (escaped_after literal) (escaped_after-reading literal)
