use Rattle.std.proofs.Common.{◌≡◌, map, take}
use Rattle.sx_key.specs.Signature.{parameter}
use Rattle.sx_key.proofs.query.parameters_in.Given as goal

abbrev pub invariant-loop-piece : goal.invariant-loop-piece
invariant-loop-piece l = l.parameters.items ≡ map parameter (map (λ t. t.now) (take l.piece-index l.pieces))
