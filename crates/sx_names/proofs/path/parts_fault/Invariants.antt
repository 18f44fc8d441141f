use Rattle.std.proofs.Common.{◌≡◌, drop}
use Rattle.sx_names.specs.Fault.{parts_fault}
use Rattle.sx_names.proofs.path.parts_fault.Given as goal

-- the parts so far break no rule
abbrev pub invariant-loop-part : goal.invariant-loop-part
invariant-loop-part l = parts_fault 1 l.parts ≡ parts_fault l.number (drop l.part-index l.parts)
