use Rattle.std.proofs.Common.{◌≡◌, map, take}
use Rattle.sx_decode.specs.Parameters.{parameter_of}
use Rattle.sx_decode.proofs.parameters.parameters_in.Given as goal

abbrev pub invariant-loop-piece : goal.invariant-loop-piece
invariant-loop-piece l = l.parameters.items ≡ map parameter_of (map (λ t. t.now) (take l.piece-index l.pieces))
