use Rattle.std.proofs.Common.{◌≡◌, ◌++◌, drop}
use Rattle.std.specs.List.{flat_map}
use Rattle.sx_listing.specs.Ranges.{range_text}
use Rattle.sx_listing.proofs.ranges.append_ranges.Given as goal

-- what was put there, and what is left to put
abbrev pub invariant-loop-span : goal.invariant-loop-span
invariant-loop-span l = l.text ++ flat_map range_text (drop l.span-index l.spans) ≡ l.fn.text ++ flat_map range_text l.spans
