use Rattle.std.proofs.Common.{◌≡◌, map, drop}
use Rattle.sx_decode.specs.Reading.{each_read, after_these}
use Rattle.sx_decode.specs.Targets.{part_of}
use Rattle.sx_decode.proofs.targets.parts_of.Given as goal

abbrev pub invariant-loop-segment : goal.invariant-loop-segment
invariant-loop-segment l =
    each_read part_of 1 (map (λ s. s.now) l.segments) ≡ after_these l.parts (each_read part_of l.number (map (λ s. s.now) (drop l.segment-index l.segments)))
