use Rattle.std.proofs.Common.{◌≡◌, map, drop}
use Rattle.sx_lines.specs.Fields.{all_of, part_of}
use Rattle.sx_lines.proofs.Parts.{after_these}
use Rattle.sx_lines.proofs.names.parts_of.Given as goal

abbrev pub invariant-loop-piece : goal.invariant-loop-piece
invariant-loop-piece l =
    all_of part_of (map (λ s. s.now) l.pieces) ≡ after_these l.parts (all_of part_of (map (λ s. s.now) (drop l.piece-index l.pieces)))
