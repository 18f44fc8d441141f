use Rattle.std.proofs.Common.{suc, ◌++◌, ◌^◌, ◌<◌}
use Rattle.std.proofs.lemmas.Bool.{cases_eq}
use Rattle.sx_text.specs.Hex.{hex_text, hex_at, hex_after}
use Rattle.sx_text.proofs.Laws.{is_reading}
use Rattle.sx_text.proofs.HexDigits.{hex-reading, hex_after-reading}
use Rattle.sx_text.proofs.theorems.hex_digits_are_read.Goals as goal

pub returns-clause-alone : goal.returns-clause-alone
returns-clause-alone c = λ more. is_reading cases_eq (hex_text (suc more)) (λ n. n < 16 ^ suc more) (hex_at more) (hex-reading more)

pub returns-clause-behind : goal.returns-clause-behind
returns-clause-behind c = λ literal more. is_reading cases_eq (λ n. literal ++ hex_text (suc more) n) (λ n. n < 16 ^ suc more) (hex_after literal more) (hex_after-reading literal more)
