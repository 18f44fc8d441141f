use Rattle.std.proofs.Common.{◌≡◌, ◌-◌}
use Rattle.sx_text.specs.Named.{named_from, named_at}
use Rattle.sx_base.specs.Date.{month_name}
use Rattle.sx_base.specs.DateReader.{has_day}
use Rattle.sx_base.proofs.date_reader.read_month.Given as goal

abbrev pub invariant-loop-month : goal.invariant-loop-month
invariant-loop-month l = named_from month_name (has_day l.day) l.left (13 - l.month) l.month l.bytes ≡ named_at month_name (has_day l.day) 12 1 l.bytes
