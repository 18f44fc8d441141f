use Rattle.std.proofs.Common.{◌-◌, ◌≤◌, length, take}
use Rattle.sx_extent.specs.Granules.{IsWritten, IsSized}
use Rattle.sx_extent.proofs.granules.write.Given as goal

abbrev pub invariant-loop-done : goal.invariant-loop-done
invariant-loop-done l =
    (l.done ≤ length l.bytes) × IsWritten l.initial.granules.entries l.granules.entries l.at (take l.done l.bytes) × IsSized l.granules.entries

abbrev pub decreases-loop-done : goal.decreases-loop-done
decreases-loop-done l = length l.bytes - l.done
