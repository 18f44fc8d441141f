use Rattle.std.proofs.Common.{◌≡◌, ◌-◌}
use Rattle.sx_text.specs.Named.{named_from, named_at}
use Rattle.sx_base.specs.Date.{weekday_name}
use Rattle.sx_base.specs.DateReader.{any_weekday}
use Rattle.sx_base.proofs.date_reader.read_weekday.Given as goal

abbrev pub invariant-loop-weekday : goal.invariant-loop-weekday
invariant-loop-weekday l = named_from weekday_name any_weekday l.left (7 - l.weekday) l.weekday l.bytes ≡ named_at weekday_name any_weekday 7 0 l.bytes
