use Rattle.std.proofs.Common.{◌-◌, ◌/◌, ◌≤◌}
use Rattle.sx_extent.specs.Granules.{IsSized}
use Rattle.sx_extent.proofs.GranuleSteps.{IsErasedBelow}
use Rattle.sx_extent.proofs.granules.erase.Given as goal

abbrev pub invariant-loop-g : goal.invariant-loop-g
invariant-loop-g l =
    (l.from / 512 ≤ l.next) × (l.next ≤ l.past) × IsErasedBelow l.initial.granules.entries l.granules.entries l.from l.end l.length l.next × IsSized l.granules.entries

abbrev pub decreases-loop-g : goal.decreases-loop-g
decreases-loop-g l = l.past - l.next
