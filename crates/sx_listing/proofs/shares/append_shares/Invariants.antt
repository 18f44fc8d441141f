use Rattle.std.proofs.Common.{◌≡◌, ◌++◌, drop}
use Rattle.std.specs.List.{flat_map}
use Rattle.sx_listing.specs.Shares.{share_text}
use Rattle.sx_listing.proofs.shares.append_shares.Given as goal

-- what was put there, and what is left to put
abbrev pub invariant-loop-item : goal.invariant-loop-item
invariant-loop-item l = l.text ++ flat_map share_text (drop l.item-index l.items) ≡ l.fn.text ++ flat_map share_text l.items
