use Rattle.std.proofs.Common.{◌≡◌, ◌+◌, ◌/◌, ◌++◌, true, cond, ltb, map}
use Rattle.std.specs.List.{All}
use Rattle.std.specs.Map.{keys_of}
use Rattle.std.specs.Ordering.{nat_cmp}
use Rattle.std.specs.BTreeMap.Range.{entries_between}
use Rattle.std.specs.declared.ops.Bound.TheVariants.{Included, Excluded}
use Rattle.sx_extent.specs.Ranges.{joined, part_of_granule, touches}
use Rattle.sx_extent.specs.Granules.{Entries}
use Rattle.sx_extent.proofs.granules.runs.Given as goal

abbrev pub invariant-loop-g : goal.invariant-loop-g
invariant-loop-g l =
    ((told : Entries)
    × (entries_between nat_cmp (Included (l.from / 512)) (Excluded (cond (ltb l.from l.end) ((l.end + 511) / 512) (l.from / 512))) l.granules.entries ≡ told ++ l.g-iterator)
    × (l.spans ≡ joined (map (part_of_granule l.from l.end) (keys_of told))))
    × All (λ e. touches l.from l.end e.0 ≡ true) l.g-iterator
