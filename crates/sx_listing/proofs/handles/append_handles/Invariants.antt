use Rattle.std.proofs.Common.{◌≡◌, ◌++◌, drop}
use Rattle.std.specs.List.{flat_map}
use Rattle.sx_listing.specs.Handles.{handle_item_text}
use Rattle.sx_listing.proofs.handles.append_handles.Given as goal

-- what was put there, and what is left to put
abbrev pub invariant-loop-item : goal.invariant-loop-item
invariant-loop-item l = l.text ++ flat_map handle_item_text (drop l.item-index l.items) ≡ l.fn.text ++ flat_map handle_item_text l.items
