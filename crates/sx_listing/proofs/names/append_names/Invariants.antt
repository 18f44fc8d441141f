use Rattle.std.proofs.Common.{◌≡◌, ◌++◌, drop}
use Rattle.std.specs.List.{flat_map}
use Rattle.sx_listing.specs.Names.{name_text}
use Rattle.sx_listing.proofs.names.append_names.Given as goal

-- what was put there, and what is left to put
abbrev pub invariant-loop-item : goal.invariant-loop-item
invariant-loop-item l = l.text ++ flat_map name_text (drop l.item-index l.items) ≡ l.fn.text ++ flat_map name_text l.items
