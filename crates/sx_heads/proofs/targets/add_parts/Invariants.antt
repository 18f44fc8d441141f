use Rattle.std.proofs.Common.{◌≡◌, ◌++◌, drop}
use Rattle.std.specs.List.{flat_map}
use Rattle.sx_heads.specs.Targets.{slashed}
use Rattle.sx_heads.proofs.targets.add_parts.Given as goal

abbrev pub invariant-loop-part : goal.invariant-loop-part
invariant-loop-part l = l.text ++ flat_map slashed (drop l.part-index l.parts) ≡ l.initial.text ++ flat_map slashed l.parts
