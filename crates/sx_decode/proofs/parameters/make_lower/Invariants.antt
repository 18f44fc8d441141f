use Rattle.std.proofs.Common.{◌≡◌, ◌++◌, map, take, drop}
use Rattle.std.specs.Char.{to_ascii_lowercase}
use Rattle.sx_decode.proofs.parameters.make_lower.Given as goal

abbrev pub invariant-loop-b : goal.invariant-loop-b
invariant-loop-b l = l.bytes ≡ map to_ascii_lowercase (take l.b-index l.initial.bytes) ++ drop l.b-index l.initial.bytes
