use Rattle.std.proofs.Common.{◌≡◌, ◌-◌, ◌^◌, ◌<◌}
use Rattle.sx_text.specs.Numbers.{reaches, may_begin}
use Rattle.sx_text.proofs.number_reader.may_go_on.Given as goal

abbrev pub invariant-loop : goal.invariant-loop
invariant-loop l = (reaches (20 - l.counter) l.low l.high l.first l.count ≡ may_begin l.low l.high l.digits) × (l.first < 2 ^ 68) × (l.count < 2 ^ 68)
