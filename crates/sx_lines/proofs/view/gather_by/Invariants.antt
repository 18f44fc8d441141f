use Rattle.std.proofs.Common.{◌≡◌, ◌-◌, ◌++◌, ◌≤◌, length, drop}
use Rattle.hex.specs.Hex.{encode_lower}
use Rattle.sx_base.specs.Printer.{PrintsFront}
use Rattle.sx_base.specs.declared.fault.Failed.{Failed}
use Rattle.sx_lines.proofs.view.gather_by.Given as goal

-- what is behind the place is left to gather, and there is as much room as at first
abbrev pub invariant-loop-at : goal.invariant-loop-at
invariant-loop-at g l =
    PrintsFront Failed g.K.Sink.wrote g.K.Sink.write_count g.K.Sink.puts l.fn.sink l.sink
    (l.fn.gathered.items ++ encode_lower l.view) (l.gathered.items ++ encode_lower (drop l.at l.view))
    × (l.at ≤ length l.view) × (length l.piece ≡ length l.fn.piece)

abbrev pub decreases-loop-at : goal.decreases-loop-at
decreases-loop-at g l = length l.view - l.at
