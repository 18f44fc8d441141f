use Rattle.std.proofs.Common.{◌++◌}
use Rattle.std.proofs.lemmas.Bool.{cases_eq}
use Rattle.sx_text.specs.Named.{IsNamed, named_at, named_after}
use Rattle.sx_text.proofs.Laws.{is_reading}
use Rattle.sx_text.proofs.NameTexts.{named-reading, named_after-reading}
use Rattle.sx_text.proofs.theorems.names_are_read.Goals as goal

pub returns-clause-alone : goal.returns-clause-alone
returns-clause-alone c = λ name is_allowed count first apart n allowed.
    is_reading cases_eq name (IsNamed is_allowed count first) (named_at name is_allowed count first)
    (named-reading name is_allowed count first apart (n, allowed))

pub returns-clause-behind : goal.returns-clause-behind
returns-clause-behind c = λ literal name is_allowed count first apart n allowed.
    is_reading cases_eq (λ n. literal ++ name n) (IsNamed is_allowed count first) (named_after literal name is_allowed count first)
    (named_after-reading name is_allowed literal count first apart (n, allowed))
