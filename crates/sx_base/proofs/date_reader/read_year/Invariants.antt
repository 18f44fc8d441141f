use Rattle.std.proofs.Common.{◌≡◌, ◌-◌}
use Rattle.sx_text.specs.Digits.{digits_text}
use Rattle.sx_text.specs.Named.{named_from, named_at}
use Rattle.sx_base.specs.DateReader.{falls_on}
use Rattle.sx_base.proofs.date_reader.read_year.Given as goal

abbrev pub invariant-loop-year : goal.invariant-loop-year
invariant-loop-year l = named_from (digits_text 4) (falls_on l.weekday l.day l.month) l.left (9893 - l.year) l.year l.bytes ≡ named_at (digits_text 4) (falls_on l.weekday l.day l.month) 7923 1970 l.bytes
